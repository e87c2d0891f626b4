use Rattle.std.proofs.Common.{◌≡◌, ℕ, ◌/◌, List, Option, Some, None, arith, refl, ap, sym, subst, ◌∙◌}
use Rattle.std.proofs.lemmas.List.{length-set}
use Rattle.kernel_tables.specs.declared.inode.Inode.{Inode}
use Rattle.kernel_tables.specs.Kernel.{Kernel, kernel_of}
use Rattle.unix_model.specs.Files.{inode_named}
use Rattle.kernel_machine.specs.Contents.{place_in, places_in}
use Rattle.dir_domain.specs.Changes.{ChangesPlaces}
use Rattle.dir_domain.specs.Rows.{IsDirectoryRow, bytes_stored, places_seen}
use Rattle.file_trees.proofs.Accounting.{nodes_left}
use Rattle.dir_domain.proofs.FoundPlaces.{first-named}
use Rattle.dir_domain.proofs.Keeping.{dir_page_left, directory-now, good-same}
use Rattle.dir_domain.proofs.Names.{named-tree, place-changed, found-told, none-told}
use Rattle.dir_domain.proofs.Seen.{places-are}
use Rattle.dir_domain.proofs.rename.change_place.Goals as goal

-- what the stored places tell of a name is what is seen of it
told-seen : (kernel : Kernel) (dir : ℕ) (row : Inode) (name : List ℕ) (told : Option ℕ) → IsDirectoryRow kernel dir row
    → told ≡ inode_named (places_in (bytes_stored kernel row) (row.length / 32)) name → told ≡ inode_named (places_seen kernel dir) name
told-seen kernel dir row name told is e = e ∙ ap (λ places. inode_named places name) (sym (places-are kernel dir row is))

pub write_place-requires : goal.write_place-requires
write_place-requires g c =
    let old = kernel_of (g.T.Store.memory c.args.store.now) in
    let row = c.directory_row-row.result in
    let first = first-named (bytes_stored old row) c.args.name.now _ c.in-Some.named.number c.in-Some.ensures.number in
    record {
      standing = c.requires.good.standing;
      row = (c.args.dir, c.directory_row-row.ensures);
      tree = named-tree old c.args.dir c.in-Some.named.number row c.args.name.now c.requires.good.standing c.directory_row-row.ensures first.inside first.named;
      number = first.inside;
      nodes = let left = nodes_left old c.requires.good in omega arith;
      pages = λ own. dir_page_left old c.args.dir (c.in-Some.named.number / 128) row c.requires.good c.directory_row-row.ensures (let below = first.inside in omega arith) (λ real. own);
    }

pub returns-in-Some-clause-told : goal.returns-in-Some-clause-told
returns-in-Some-clause-told g c =
    let old = kernel_of (g.T.Store.memory c.args.store.now) in
    found-told (places_seen old c.args.dir) c.args.name.now c.in-Some.named.inode
    (told-seen old c.args.dir c.directory_row-row.result c.args.name.now (Some c.in-Some.named.inode) c.directory_row-row.ensures c.in-Some.ensures.inode)

pub returns-in-Some-clause-changed : goal.returns-in-Some-clause-changed
returns-in-Some-clause-changed g c =
    let old = kernel_of (g.T.Store.memory c.args.store.now) in
    let new = kernel_of (g.T.Store.memory c.write_place.new.store) in
    subst (ChangesPlaces old new c.args.dir)
    (place-changed old c.args.dir c.in-Some.named.number c.directory_row-row.result c.args.name.now _ (place_in c.args.bytes.now) c.directory_row-row.ensures c.in-Some.ensures.number refl)
    (c.write_place.ensures.changed c.args.dir c.directory_row-row.ensures)

pub returns-in-None-clause-told : goal.returns-in-None-clause-told
returns-in-None-clause-told g c =
    let old = kernel_of (g.T.Store.memory c.args.store.now) in
    none-told (places_seen old c.args.dir) c.args.name.now
    (told-seen old c.args.dir c.directory_row-row.result c.args.name.now None c.directory_row-row.ensures c.in-None.ensures.inode)

pub returns-in-Some-clause-good : goal.returns-in-Some-clause-good
returns-in-Some-clause-good g c =
    let old = kernel_of (g.T.Store.memory c.args.store.now) in
    let new = kernel_of (g.T.Store.memory c.write_place.new.store) in
    let is = c.directory_row-row.ensures in
    good-same old new c.args.dir _ c.requires.good is.below (c.write_place.ensures.changed c.args.dir is) c.requires.directory
    (length-set (places_seen old c.args.dir) c.in-Some.named.number (place_in c.args.bytes.now)) c.write_place.ensures.promised

pub returns-in-Some-clause-directory : goal.returns-in-Some-clause-directory
returns-in-Some-clause-directory g c =
    directory-now (kernel_of (g.T.Store.memory c.args.store.now)) (kernel_of (g.T.Store.memory c.write_place.new.store)) c.args.dir _ (c.write_place.ensures.changed c.args.dir c.directory_row-row.ensures)
