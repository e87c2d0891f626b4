-- A place of a directory is written: its places have changed, and nothing else that is seen.
use Rattle.std.proofs.Common.{◌≡◌, ◌≢◌, ℕ, ◌+◌, ◌*◌, ◌/◌, ◌<◌, ◌≤◌, Some, List, length, set, refl, ap, ap₂, sym, subst, ◌∙◌, arith}
use Rattle.std.specs.Prelude.{option_map, ◌%◌}
use Rattle.std.proofs.lemmas.List.{length-set}
use Rattle.kernel_tables.specs.declared.entry.PageOwner.TheVariants.{Directory}
use Rattle.kernel_tables.specs.declared.inode.Inode.{Inode}
use Rattle.kernel_tables.specs.declared.inode.InodeKind.{InodeKind}
use Rattle.kernel_tables.specs.declared.inode.InodeKind.TheVariants.{File, Dir, Pipe, Console}
use Rattle.kernel_tables.specs.Kernel.{Kernel, memory_page}
use Rattle.space_bank.specs.Bank.{BankGood}
use Rattle.forest.specs.Walks.{map_of}
use Rattle.kernel_forest.specs.Owners.{page_owners, PagesAreOf}
use Rattle.kernel_forest.specs.Trees.{forest_of}
use Rattle.unix_model.specs.Files as model
use Rattle.unix_model.specs.Files.{parent_of, with_inode}
use Rattle.unix_model.specs.Memory.{Memory}
use Rattle.unix_model.specs.State.{with_files}
use Rattle.unix_model.specs.Tables.{at, with_at}
use Rattle.unix_model.proofs.TableLaws.{with_at-same}
use Rattle.kernel_machine.specs.Contents.{place_in, places_in}
use Rattle.kernel_machine.specs.Held.{AllWhole}
use Rattle.kernel_machine.specs.Laws.{ChangesMemory}
use Rattle.kernel_machine.specs.Machine.{KernelMachine, machine_of, inodes_of}
use Rattle.kernel_machine.specs.Standing.{Standing}
use Rattle.kernel_machine.specs.Trees.{HasTree, IsFileTree, pages_owner}
use Rattle.kernel_machine.specs.View.{view, inode_by, inode_in, inodes_in, files_in, stored}
use Rattle.kernel_machine.proofs.MemoryLaws.{tree_changed}
use Rattle.kernel_machine.proofs.PagesHeld.{file-long, places-long}
use Rattle.kernel_machine.proofs.SpacesStand.{standing_with_tree}
use Rattle.file_trees.specs.Pieces.{PutsInTree}
use Rattle.file_trees.specs.Trees.{tree_memory}
use Rattle.file_trees.proofs.Contents.{WholeTree}
use Rattle.file_trees.proofs.FileTrees.{bytes_put, memory_of_root, tree_put}
use Rattle.file_trees.proofs.Views.{changes_memory}
use Rattle.dir_domain.specs.Changes.{ChangesPlaces, with_tree}
use Rattle.dir_domain.specs.Rows.{IsDirectoryRow, places_seen, inode_seen, bytes_stored}
use Rattle.dir_domain.proofs.PlaceWrites.{places-put}
use Rattle.dir_domain.proofs.Seen.{places-are, tree-owned, tree-whole}

-- what an inode that is a directory is seen as
dir-by : (machine : KernelMachine) (row : Inode) (kind : InodeKind) → kind ≡ Dir → inode_by machine row kind ≡ model.Directory row.parent (places_in (stored machine row) (row.length / 32))
dir-by machine row File e = cc
dir-by machine row Dir e = refl
dir-by machine row Pipe e = cc
dir-by machine row Console e = cc

pub dir-in : (machine : KernelMachine) (row : Inode) → row.kind ≡ Dir → inode_in machine row ≡ model.Directory row.parent (places_in (stored machine row) (row.length / 32))
unfolding inode_in
dir-in machine row e = dir-by machine row row.kind e

pub has-tree : (kind : InodeKind) → kind ≡ Dir → HasTree kind
has-tree File e = cc
has-tree Dir e = tt
has-tree Pipe e = cc
has-tree Console e = cc

pub parent-seen : (kernel : Kernel) (dir : ℕ) (row : Inode) → IsDirectoryRow kernel dir row → parent_of (inode_seen kernel dir) ≡ row.parent
unfolding inodes_in machine_of inodes_of at
parent-seen kernel dir row is = ap (λ there. parent_of (option_map (inode_in (machine_of kernel)) there)) is.there ∙ ap (λ i. parent_of (Some i)) (dir-in (machine_of kernel) row is.kind)

module _ (old new : Kernel) (dir number : ℕ) (row : Inode) (bytes : List ℕ) (standing : Standing old) (is : IsDirectoryRow old dir row) (some : row.root ≢ 0) (below : number < row.length / 32)
    (long : length bytes ≡ 32) (puts : PutsInTree old new row.root (32 * number) bytes Directory) (bank : BankGood new) (all : AllWhole new.bank) where
  abbrev before : Memory
  before = tree_memory old row.root

  whole : WholeTree before
  whole = tree-whole old row.root standing is.tree

  within : 32 * number + length bytes ≤ row.length
  within = omega (arith, long)

  in-page : 32 * number % 4096 + length bytes ≤ 4096
  in-page = omega (arith, long)

  file-now : IsFileTree (forest_of new).keys (memory_page new) row.root row.length
  file-now =
      tree_put old new row.root row.length (32 * number) bytes Directory whole in-page within puts some (omega (arith, long))
      (memory_of_root old row.root row.length whole is.file)

  owned-now : PagesAreOf (pages_owner row.kind) (page_owners new) (map_of (forest_of new).keys row.root)
  owned-now = subst (λ k. PagesAreOf (pages_owner k) (page_owners new) (map_of (forest_of new).keys row.root)) (sym is.kind)
      (puts.owned (tree-owned old dir row standing is some))

  standing-now : Standing new
  standing-now = standing_with_tree old new row.root dir row puts.leaves is.there (has-tree row.kind is.kind) refl file-now owned-now bank all standing

  memory-now : ChangesMemory (machine_of old) (machine_of new) row.root
  memory-now = changes_memory old new row.root puts.leaves

  view-now : view (machine_of new) ≡ with_files (view (machine_of old)) (with_inode (files_in (machine_of old)) dir (inode_in (machine_of new) row))
  unfolding machine_of
  view-now = tree_changed (machine_of old) (machine_of new) dir row row.root standing.holdings standing.roots is.there refl some (has-tree row.kind is.kind) memory-now

  places-now : places_in (stored (machine_of new) row) (row.length / 32) ≡ set (places_seen old dir) number (place_in bytes)
  places-now =
      ap (λ xs. places_in xs (row.length / 32)) (bytes_put old new row.root row.length (32 * number) bytes Directory whole in-page within puts)
      ∙ places-put (bytes_stored old row) bytes number long (omega (arith, long, file-long before whole row.length)) (row.length / 32) below
      ∙ ap (λ places. set places number (place_in bytes)) (sym (places-are old dir row is))

  inode-now : inode_in (machine_of new) row ≡ model.Directory (parent_of (inode_seen old dir)) (set (places_seen old dir) number (place_in bytes))
  inode-now = dir-in (machine_of new) row is.kind ∙ ap₂ model.Directory (sym (parent-seen old dir row is)) places-now

  size-now : 32 * length (set (places_seen old dir) number (place_in bytes)) ≡ row.length
  size-now =
      let same = length-set (places_seen old dir) number (place_in bytes) in
      let count : length (places_seen old dir) ≡ row.length / 32 = ap length (places-are old dir row is) ∙ places-long (bytes_stored old row) (row.length / 32) in
      let exact = is.whole in
      omega arith

  machine-same : (size : ℕ) → size ≡ row.length → with_tree (machine_of old) dir row row.root size ≡ machine_of old
  unfolding machine_of
  machine-same size e =
      ap (λ n. record (machine_of old) { inodes = with_at (inodes_of old) dir (Some (record row { length = n })) }) e
      ∙ ap (λ table. record (machine_of old) { inodes = table }) (with_at-same (inodes_of old) dir (Some row) is.there)

  pub place-written : ChangesPlaces old new dir (set (places_seen old dir) number (place_in bytes))
  place-written = record {
    row = row;
    root = row.root;
    there = is.there;
    machine = subst (λ m. ChangesMemory m (machine_of new) row.root) (sym (machine-same (32 * length (set (places_seen old dir) number (place_in bytes))) size-now)) memory-now;
    view = view-now ∙ ap (λ i. with_files (view (machine_of old)) (with_inode (files_in (machine_of old)) dir i)) inode-now;
    standing = standing-now;
  }
