use Rattle.std.proofs.Common.{◌≡◌, ℕ, sym, subst, ◌*◌, ◌/◌, arith}
use Rattle.forest.specs.Calls.{IsOwn}
use Rattle.forest.specs.Walks.{Mapping}
use Rattle.kernel_forest.specs.Trees.{forest_of}
use Rattle.kernel_tables.specs.Kernel.{Kernel, kernel_of}
use Rattle.kernel_machine.proofs.OwnerLaws.{store_is_whole}
use Rattle.dir_domain.proofs.Changing.{place-written}
use Rattle.dir_domain.proofs.Seen.{tree-of-file}
use Rattle.dir_domain.proofs.write.write_place.Goals as goal

-- a page that is own is so by whatever number it goes
own-there : (kernel : Kernel) (root page same_page : ℕ) (found : Mapping) → page ≡ same_page → IsOwn (forest_of kernel) root page found → IsOwn (forest_of kernel) root same_page found
own-there kernel root page same_page found same is = subst (λ (n : ℕ). IsOwn (forest_of kernel) root n found) same is

pub put_piece-requires-clause-page_room : goal.put_piece-requires-clause-page_room
put_piece-requires-clause-page_room g c = λ own.
    let same : c.args.number / 128 ≡ 32 * c.args.number / 4096 = omega arith in
    c.requires.pages (λ found is. own found (own-there (kernel_of (g.T.Store.memory c.args.store.now)) c.args.row.now.root (c.args.number / 128) (32 * c.args.number / 4096) found same is))

pub put_piece-requires-clause-owner : goal.put_piece-requires-clause-owner
put_piece-requires-clause-owner g c =
    let old = kernel_of (g.T.Store.memory c.args.store.now) in
    sym (tree-of-file old c.requires.row.0 c.args.row.now c.requires.standing c.requires.row.1 c.requires.tree)

pub returns-clause-changed : goal.returns-clause-changed
returns-clause-changed g c = λ dir is.
    let new = kernel_of (g.T.Store.memory c.put_piece.new.store) in
    place-written (kernel_of (g.T.Store.memory c.args.store.now)) new dir c.args.number c.args.row.now c.args.bytes.now c.requires.standing is c.requires.tree c.requires.number c.told-bytes
    c.put_piece.ensures.put c.put_piece.ensures.good
    (store_is_whole (g.T.Store.memory c.put_piece.new.store) c.put_piece.ensures.good (g.met.T.Store.page_length c.put_piece.new.store))
