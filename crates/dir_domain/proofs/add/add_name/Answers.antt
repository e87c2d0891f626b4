use Rattle.std.proofs.Common.{◌≡◌, ℕ, ◌/◌, List, Some, true, refl, ap, ◌∙◌, arith}
use Rattle.std.specs.Option.{is_some}
use Rattle.kernel_tables.specs.declared.inode.Inode.{Inode}
use Rattle.kernel_tables.specs.Kernel.{Kernel, kernel_of}
use Rattle.unix_model.specs.Files.{inode_named}
use Rattle.unix_model.specs.Tables.{least_below}
use Rattle.kernel_machine.specs.Machine.{machine_of}
use Rattle.kernel_machine.specs.View.{view}
use Rattle.file_trees.proofs.Accounting.{nodes_left}
use Rattle.dir_domain.specs.Places.{has_name, is_hole}
use Rattle.dir_domain.specs.Rows.{IsDirectoryRow, bytes_stored, places_seen}
use Rattle.dir_domain.proofs.Adding.{name-there}
use Rattle.dir_domain.proofs.AddsNames.{name-filled, name-appended}
use Rattle.dir_domain.proofs.FoundPlaces.{first-named}
use Rattle.dir_domain.proofs.Keeping.{dir_page_left, directory-now, directory-added}
use Rattle.dir_domain.proofs.Searches.{found-inside}
use Rattle.dir_domain.proofs.Seen.{places-are}
use Rattle.dir_domain.proofs.add.add_name.Goals as goal

-- a directory has a name once a place of it has the name
has-place : (kernel : Kernel) (dir : ℕ) (row : Inode) (name : List ℕ) (number : ℕ) → IsDirectoryRow kernel dir row
    → Some number ≡ least_below (has_name name (bytes_stored kernel row)) (row.length / 32) → is_some (inode_named (places_seen kernel dir) name) ≡ true
has-place kernel dir row name number is e =
    let first = first-named (bytes_stored kernel row) name (row.length / 32) number e in
    ap (λ places. is_some (inode_named places name)) (places-are kernel dir row is) ∙ ap is_some first.found ∙ first.named

pub returns-in-Some-clause-added : goal.returns-in-Some-clause-added
unfolding view
returns-in-Some-clause-added g c =
    let old = kernel_of (g.T.Store.memory c.args.store.now) in
    let row = c.directory_row-row.result in (
      name-there (view (machine_of old)) c.args.dir c.args.name.now c.args.inode (has-place old c.args.dir row c.args.name.now c.in-Some.field-0 c.directory_row-row.ensures c.in-Some.ensures),
      refl,
    )

pub put_place-requires : goal.put_place-requires
put_place-requires g c =
    let old = kernel_of (g.T.Store.memory c.args.store.now) in
    let row = c.directory_row-row.result in
    let is = c.directory_row-row.ensures in
    let below = found-inside (is_hole (bytes_stored old row)) (row.length / 32) c.in-Some-first_hole.number c.in-Some-first_hole.ensures in
    record {
      standing = c.requires.good.standing;
      row = is;
      order = omega arith;
      few = is.few;
      whole = is.whole;
      number = below;
      nodes = let left = nodes_left old c.requires.good in omega arith;
      pages = λ own. dir_page_left old c.args.dir (c.in-Some-first_hole.number / 128) row c.requires.good is (omega arith) own;
    }

pub returns-in-Some-first_hole : goal.returns-in-Some-first_hole
returns-in-Some-first_hole g c =
    let old = kernel_of (g.T.Store.memory c.args.store.now) in
    let new = kernel_of (g.T.Store.memory c.put_place.new.store) in
    let filled = name-filled old c.args.dir c.args.inode c.directory_row-row.result c.args.name.now c.requires.good c.directory_row-row.ensures c.requires.directory c.requires.name c.ranges.inode.fits c.in-None.ensures
    new c.in-Some-first_hole.number c.entry_bytes-bytes.result c.entry_bytes-bytes.ensures c.in-Some-first_hole.ensures c.put_place.ensures.changed c.put_place.ensures.promised in
    record { added = filled.0; good = filled.1; directory = directory-now old new c.args.dir _ filled.0.1; most = c.put_place.ensures.most; keeps = c.put_place.ensures.keeps }

pub returns-in-None-first_hole : goal.returns-in-None-first_hole
returns-in-None-first_hole g c =
    let old = kernel_of (g.T.Store.memory c.args.store.now) in
    let new = kernel_of (g.T.Store.memory c.append.new.store) in
    let appended = name-appended old c.args.dir c.args.inode c.directory_row-row.result c.args.name.now c.requires.good c.directory_row-row.ensures c.requires.directory c.requires.name c.ranges.inode.fits c.in-None.ensures
    new c.append.result c.entry_bytes-bytes.result c.entry_bytes-bytes.ensures c.in-None-first_hole.ensures c.append.ensures.appended in
    record { added = appended.0; good = appended.1; directory = directory-added old new c.args.dir c.args.inode c.args.name.now c.append.result c.requires.directory appended.0; most = c.append.ensures.most; keeps = c.append.ensures.keeps }
