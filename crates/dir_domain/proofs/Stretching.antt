-- The row of a directory gets another length, and then a place of it is written: both together are one change of its places.
use Rattle.std.proofs.Common.{◌≡◌, ◌≢◌, ℕ, zero, suc, ◌*◌, ◌/◌, ◌<◌, ◌≤◌, Option, Some, List, [], length, set, refl, ap, sym, subst, ◌∙◌}
use Rattle.std.specs.Prelude.{◌%◌}
use Rattle.std.proofs.lemmas.List.{get_or-set_same}
use Rattle.kernel_tables.specs.declared.entry.PageOwner.TheVariants.{Directory}
use Rattle.kernel_tables.specs.declared.inode.Inode.{Inode}
use Rattle.kernel_tables.specs.declared.inode.InodeKind.{InodeKind}
use Rattle.kernel_tables.specs.declared.inode.InodeKind.TheVariants.{File, Dir, Pipe, Console}
use Rattle.kernel_tables.specs.declared.row.Row.TheVariants.{Used, Unspelled}
use Rattle.kernel_tables.specs.Kernel.{Kernel, memory_page}
use Rattle.forest.specs.Forest.{IsSpace}
use Rattle.forest.specs.Objects.{NodeObject, OfFile}
use Rattle.forest.specs.Walks.{map_of}
use Rattle.kernel_forest.specs.Owners.{page_owners, PagesAreOf}
use Rattle.kernel_forest.specs.Trees.{forest_of}
use Rattle.file_tables.specs.Roots.{ExchangesRoots}
use Rattle.file_tables.specs.Rows.{InodesGood, IsInodeAt, IsOfKind, IsDirectory}
use Rattle.unix_model.specs.Files as model
use Rattle.forest.specs.Calls.{IsOwn}
use Rattle.forest.specs.Walks.{Mapping}
use Rattle.unix_model.specs.Files.{Entry, parent_of, with_inode, with_places}
use Rattle.unix_model.specs.State.{Unix, with_files}
use Rattle.unix_model.specs.Tables.{at, with_at}
use Rattle.unix_model.proofs.TableLaws.{at-with_at, with_at-twice}
use Rattle.kernel_machine.specs.Contents.{file_in, places_in}
use Rattle.kernel_machine.specs.Laws.{ChangesMemory}
use Rattle.kernel_machine.specs.Machine.{KernelMachine, machine_of, inodes_of}
use Rattle.kernel_machine.specs.Standing.{Standing}
use Rattle.kernel_machine.specs.Trees.{IsFileTree, IsRootOf}
use Rattle.kernel_machine.specs.View.{view, inode_in, inodes_in, files_in, file_memory, memory_in}
use Rattle.kernel_machine.proofs.MachineLaws.{inode_written}
use Rattle.kernel_machine.proofs.SetLaws.{inode_set}
use Rattle.kernel_machine.proofs.StandingLaws.{standing_with_inode}
use Rattle.file_trees.proofs.FileTrees.{tree_grown}
use Rattle.dir_domain.specs.Changes.{ChangesPlaces, with_tree, places_for}
use Rattle.dir_domain.specs.Rows.{IsDirectoryRow, places_seen, inode_seen}
use Rattle.dir_domain.proofs.Changing.{dir-in, parent-seen}
use Rattle.dir_domain.proofs.Seen.{places-are, tree-of-file, tree-owned, tree-whole}

-- a directory may have another root, and another length
pub right-with : (dir : ℕ) (row : Inode) (root size : ℕ) → IsInodeAt dir row → row.kind ≡ Dir → size ≤ 32768 → size % 32 ≡ 0 → IsInodeAt dir (record row { root = root; length = size })
right-with dir row root size right kind few whole =
    let was : IsDirectory row = subst (λ k. IsOfKind k row) kind right.of_kind in
    record {
      of_kind = subst (λ k. IsOfKind k (record row { root = root; length = size })) (sym kind) (record { length = few; whole_places = whole; parent = was.parent; no_start = was.no_start });
      console = right.console;
      root_kind = right.root_kind;
      root_parent = right.root_parent;
    }

-- what stays when the row of an inode is written
pub same-taken : (old new : Kernel) (dir : ℕ) (row : Inode) → new ≡ record old { inodes = set old.inodes dir (Used row) } → new.machine.nodes_taken ≡ old.machine.nodes_taken
same-taken old new dir row e = ap (λ (k : Kernel). k.machine.nodes_taken) e

pub same-nodes : (old new : Kernel) (dir : ℕ) (row : Inode) → new ≡ record old { inodes = set old.inodes dir (Used row) } → new.nodes ≡ old.nodes
same-nodes old new dir row e = ap (λ (k : Kernel). k.nodes) e

pub same-promised : (old new : Kernel) (dir : ℕ) (row : Inode) → new ≡ record old { inodes = set old.inodes dir (Used row) } → new.machine.promised ≡ old.machine.promised
same-promised old new dir row e = ap (λ (k : Kernel). k.machine.promised) e

pub pages-then : (old new : Kernel) (dir root page : ℕ) (row : Inode) → new ≡ record old { inodes = set old.inodes dir (Used row) }
    → (((found : Mapping) → IsOwn (forest_of old) root page found → ⊥) → old.machine.pages_taken < old.size)
    → ((found : Mapping) → IsOwn (forest_of new) root page found → ⊥) → new.machine.pages_taken < new.size
pages-then old new dir root page row e less = subst (λ (k : Kernel). ((found : Mapping) → IsOwn (forest_of k) root page found → ⊥) → k.machine.pages_taken < k.size) (sym e) less

root-by : (old : Kernel) (row : Inode) (kind : InodeKind) → kind ≡ Dir
    → (row.root ≢ 0 → IsSpace (forest_of old) [] row.root × ((forest_of old).owner (NodeObject row.root) ≡ Some OfFile)
    × IsFileTree (forest_of old).keys (memory_page old) row.root row.length
    × PagesAreOf Directory (page_owners old) (map_of (forest_of old).keys row.root))
    → IsRootOf (forest_of old) (memory_page old) (page_owners old) row kind
root-by old row File e is = cc
root-by old row Dir e is = is
root-by old row Pipe e is = cc
root-by old row Console e is = cc

module _ (old : Kernel) (dir size : ℕ) (row : Inode) (standing : Standing old) (is : IsDirectoryRow old dir row) (some : row.root ≢ 0) (inside : dir < length old.inodes)
    (order : row.length ≤ size) (few : size ≤ 32768) (whole : size % 32 ≡ 0) where
  abbrev longer : Inode
  longer = record row { length = size }

  abbrev mid : Kernel
  mid = record old { inodes = set old.inodes dir (Used longer) }

  tree-now : IsFileTree (forest_of old).keys (memory_page old) row.root size
  tree-now = tree_grown old row.root row.length size some (tree-whole old row.root standing is.tree) order (is.file some)

  pub longer-stands : (new : Kernel) → new ≡ mid → ExchangesRoots old new dir (Used longer) → InodesGood new.inodes → Standing new
  longer-stands new e exchanges good =
      standing_with_inode old new dir row longer inside is.used e exchanges good refl refl
      (root-by old longer longer.kind is.kind
      (λ real. (is.tree real, tree-of-file old dir row standing is some, tree-now, tree-owned old dir row standing is some))) standing

  machine-mid : machine_of mid ≡ record (machine_of old) { inodes = with_at (inodes_of old) dir (Some longer) }
  machine-mid = inode_written old mid dir (Used longer) inside refl

  there-mid : at (inodes_of mid) dir ≡ Some longer
  unfolding machine_of
  there-mid = ap (λ (m : KernelMachine). at m.inodes dir) machine-mid ∙ at-with_at (inodes_of old) dir (Some longer)

  pub row-mid : IsDirectoryRow mid dir longer
  row-mid = record {
    there = there-mid;
    kind = is.kind;
    few = few;
    whole = whole;
    tree = is.tree;
    file = λ real. tree-now;
    below = is.below;
    used = get_or-set_same old.inodes dir (Used longer) Unspelled inside;
    right = right-with dir row row.root size is.right is.kind few whole;
  }

  memory-mid : file_memory (machine_of mid) row.root ≡ file_memory (machine_of old) row.root
  unfolding file_memory memory_in machine_of
  memory-mid = by row.root
    where
      by : (root : ℕ) → file_memory (machine_of mid) root ≡ file_memory (machine_of old) root
      by zero = refl
      by (suc root) = refl

  pub places-mid : places_seen mid dir ≡ places_for old row size
  places-mid = places-are mid dir longer row-mid ∙ ap (λ m. places_in (file_in m size) (size / 32)) memory-mid

  files-mid : view (machine_of mid) ≡ with_files (view (machine_of old)) (with_inode (files_in (machine_of old)) dir (inode_in (machine_of old) longer))
  files-mid = inode_set old mid dir longer inside refl

  -- of two changes of a directory the last counts
  twice : (places : List (Option Entry)) (u : Unix) → u ≡ with_files (view (machine_of old)) (with_inode (files_in (machine_of old)) dir (inode_in (machine_of old) longer))
      → with_files u (with_places u.files dir places) ≡ with_files (view (machine_of old)) (with_places (files_in (machine_of old)) dir places)
  twice places u e =
      let first : Option model.Inode = Some (inode_in (machine_of old) longer) in
      let parents : parent_of (at (with_at (inodes_in (machine_of old)) dir first) dir) ≡ parent_of (inode_seen old dir) =
      ap parent_of (at-with_at (inodes_in (machine_of old)) dir first) ∙ ap (λ i. parent_of (Some i)) (dir-in (machine_of old) longer is.kind) ∙ sym (parent-seen old dir row is)
      in
      ap (λ (w : Unix). with_files w (with_places w.files dir places)) e
      ∙ ap (λ parent. with_files (view (machine_of old)) (record (files_in (machine_of old)) { inodes = with_at (with_at (inodes_in (machine_of old)) dir first) dir (Some (model.Directory parent places)) })) parents
      ∙ ap (λ table. with_files (view (machine_of old)) (record (files_in (machine_of old)) { inodes = table }))
      (with_at-twice (inodes_in (machine_of old)) dir first (Some (model.Directory (parent_of (inode_seen old dir)) places)))

  old-table : (root n : ℕ) → record (machine_of old) { inodes = with_at (inodes_of old) dir (Some (record row { root = root; length = n })) } ≡ with_tree (machine_of old) dir row root n
  unfolding machine_of
  old-table root n = refl

  pub then-changed : (new : Kernel) (places : List (Option Entry)) → ChangesPlaces mid new dir places → ChangesPlaces old new dir places
  unfolding view
  then-changed new places changes =
      let both : Some changes.row ≡ Some longer = sym changes.there ∙ there-mid in
      let same : changes.row ≡ longer = cc in
      let machines : with_tree (machine_of mid) dir changes.row changes.root (32 * length places) ≡ with_tree (machine_of old) dir row changes.root (32 * length places) =
      ap (λ (r : Inode). with_tree (machine_of mid) dir r changes.root (32 * length places)) same
      ∙ ap (λ (m : KernelMachine). with_tree m dir longer changes.root (32 * length places)) machine-mid
      ∙ ap (λ table. record (machine_of old) { inodes = table }) (with_at-twice (inodes_of old) dir (Some longer) (Some (record row { root = changes.root; length = 32 * length places })))
      ∙ old-table changes.root (32 * length places)
      in
      record {
        row = row;
        root = changes.root;
        there = is.there;
        machine = subst (λ m. ChangesMemory m (machine_of new) changes.root) machines changes.machine;
        view = changes.view ∙ twice places (view (machine_of mid)) files-mid;
        standing = changes.standing;
      }

  -- .. told of the tables with the longer row
  pub row-then : (new : Kernel) → new ≡ mid → IsDirectoryRow new dir longer
  row-then new e = subst (λ (k : Kernel). IsDirectoryRow k dir longer) (sym e) row-mid

  pub change-then : (new last : Kernel) (number : ℕ) (place : Option Entry) → new ≡ mid → (IsDirectoryRow new dir longer → ChangesPlaces new last dir (set (places_seen new dir) number place))
      → ChangesPlaces old last dir (set (places_for old row size) number place)
  change-then new last number place e changed =
      then-changed last (set (places_for old row size) number place)
      (subst (λ (places : List (Option Entry)). ChangesPlaces mid last dir (set places number place)) places-mid
      (subst (λ (k : Kernel). IsDirectoryRow k dir longer → ChangesPlaces k last dir (set (places_seen k dir) number place)) e changed row-mid))
