-- A directory that had no tree gets one, in which a place is written.
use Rattle.std.proofs.Common.{◌≡◌, ◌≢◌, ℕ, ◌+◌, ◌*◌, ◌/◌, ◌<◌, ◌≤◌, Option, Some, None, List, [], length, set, refl, ap, ap₂, sym, subst, ◌∙◌, arith}
use Rattle.std.specs.Prelude.{◌%◌, slice_index_or}
use Rattle.std.proofs.lemmas.List.{length-set}
use Rattle.kn_base.specs.Memory.{zero_page}
use Rattle.kernel_tables.specs.declared.entry.PageOwner.TheVariants.{Directory}
use Rattle.kernel_tables.specs.declared.inode.Inode.{Inode}
use Rattle.kernel_tables.specs.declared.row.Row.TheVariants.{Used, Unspelled}
use Rattle.kernel_tables.specs.Kernel.{Kernel, memory_page}
use Rattle.space_bank.specs.Bank.{BankGood}
use Rattle.space_bank.specs.Laws.{and_outside}
use Rattle.forest.specs.Calls.{AddsSpace}
use Rattle.forest.specs.Walks.{Mapping, map_of, space_key}
use Rattle.kernel_forest.specs.Owners.{page_owners, PagesAreOf}
use Rattle.kernel_forest.specs.Trees.{forest_of, TreesGood}
use Rattle.file_tables.specs.Roots.{named_by, ExchangesRoots}
use Rattle.file_tables.specs.Rows.{InodesGood}
use Rattle.unix_model.specs.Files as model
use Rattle.unix_model.specs.Files.{Entry}
use Rattle.unix_model.specs.Memory.{Memory}
use Rattle.unix_model.specs.State.{with_files}
use Rattle.unix_model.specs.Files.{with_inode}
use Rattle.unix_model.specs.Tables.{at, with_at}
use Rattle.user_copy.proofs.Pages.{memory_none}
use Rattle.kernel_machine.specs.Contents.{file_in, place_in, places_in}
use Rattle.kernel_machine.specs.Held.{AllWhole}
use Rattle.kernel_machine.specs.Laws.{ChangesMemory}
use Rattle.kernel_machine.specs.Machine.{KernelMachine, machine_of, inodes_of, held}
use Rattle.kernel_machine.specs.Standing.{Standing}
use Rattle.kernel_machine.specs.Trees.{IsFileTree, pages_owner}
use Rattle.kernel_machine.specs.View.{view, files_in, memory_in, stored}
use Rattle.kernel_machine.proofs.MachineLaws.{inode_written}
use Rattle.kernel_machine.proofs.PagesHeld.{file-long, places-long}
use Rattle.file_trees.specs.Trees.{tree_memory, tree_page}
use Rattle.file_trees.proofs.Contents.{WholeTree}
use Rattle.file_trees.proofs.FileMemory.{memory_empty}
use Rattle.file_trees.proofs.FileTrees.{bytes_put, tree_put}
use Rattle.file_trees.proofs.Owned.{owned_none}
use Rattle.file_trees.proofs.Pages.{tree_is_space, page_absent, page_none, zero_long}
use Rattle.file_trees.proofs.Pieces.{space_some}
use Rattle.file_trees.proofs.Rooting.{changes-now, root_stands, root_seen}
use Rattle.dir_domain.specs.Changes.{ChangesPlaces, Plants, with_tree, places_for}
use Rattle.dir_domain.specs.Rows.{IsDirectoryRow}
use Rattle.dir_domain.proofs.Changing.{dir-in, has-tree, parent-seen}
use Rattle.dir_domain.proofs.Growing.{blank-place, same-places}
use Rattle.dir_domain.proofs.Seen.{tree-whole}
use Rattle.dir_domain.proofs.PlaceWrites.{places-put}

-- the machine with another table of inodes
with-table : (m1 m2 : KernelMachine) (space : ℕ) (t1 t2 : ℕ → Option Inode) → t2 ≡ t1 → ChangesMemory m1 m2 space → ChangesMemory (record m1 { inodes = t1 }) (record m2 { inodes = t2 }) space
unfolding memory_in
with-table m1 m2 space t1 t2 e changes = record {
  rest = ap (λ (m : KernelMachine). record m { inodes = t2 }) changes.rest
      ∙ ap (λ t. record m1 {
        inodes = t;
        forest = m2.forest;
        page_bytes = m2.page_bytes;
        page_owner = m2.page_owner;
        words = record m2.words { size = m1.words.size; quantum = m1.words.quantum; position = m1.words.position; next_pid = m1.words.next_pid };
      }) e;
  memories = changes.memories;
  buffers = changes.buffers;
  pipes = changes.pipes;
}

module _ (old k2 : Kernel) (dir size number space : ℕ) (row : Inode) (bytes : List ℕ) (standing : Standing old) (is : IsDirectoryRow old dir row) (none : row.root ≡ 0) (inside : dir < length old.inodes)
    (long : length bytes ≡ 32) (below : number < size / 32) (planted : Plants old k2 space (32 * number) bytes) (bank : BankGood k2) where
  abbrev mid : Kernel
  mid = planted.mid

  abbrev rooted : Inode
  rooted = record row { root = space; length = size }

  abbrev now : Kernel
  now = record k2 { inodes = set k2.inodes dir (Used rooted) }

  added : TreesGood mid (and_outside (named_by old.inodes) (space_key space)) [] × AddsSpace (forest_of old) (forest_of mid) space (λ page. None)
  added = planted.adds.adds (named_by old.inodes) standing.trees

  some : space ≢ 0
  some = space_some mid space planted.good added.1.is_space

  unmapped : (page : ℕ) → map_of (forest_of mid).keys space page ≡ None
  unmapped page = ap (λ (m : ℕ → Option Mapping). m page) added.1.here

  abbrev before : Memory
  before = tree_memory mid space

  blank : (page : ℕ) → tree_page before page ≡ zero_page
  blank page = page_none mid space page some (unmapped page)

  whole : WholeTree before
  whole page = ap length (blank page) ∙ zero_long

  empty : (page : ℕ) → at before page ≡ None
  empty page = ap (λ (m : Memory). at m page) (tree_is_space mid space some) ∙ memory_none mid space page (unmapped page)

  in-page : 32 * number % 4096 + length bytes ≤ 4096
  in-page = omega (arith, long)

  file-now : IsFileTree (forest_of k2).keys (memory_page k2) space size
  file-now =
      tree_put mid k2 space size (32 * number) bytes Directory whole in-page (omega (arith, long)) planted.puts some (omega (arith, long))
      (memory_empty before empty size)

  -- it had no pages, so all are of a directory
  owned-now : PagesAreOf (pages_owner row.kind) (page_owners k2) (map_of (forest_of k2).keys space)
  owned-now = subst (λ k. PagesAreOf (pages_owner k) (page_owners k2) (map_of (forest_of k2).keys space)) (sym is.kind)
      (planted.puts.owned (owned_none Directory (page_owners mid) (map_of (forest_of mid).keys space) unmapped))

  inodes-now : k2.inodes ≡ old.inodes
  inodes-now = ap (λ (k : Kernel). k.inodes) planted.puts.leaves.rest ∙ ap (λ (k : Kernel). k.inodes) planted.adds.rest

  standing-now : ExchangesRoots k2 now dir (Used rooted) → InodesGood now.inodes → AllWhole k2.bank → Standing now
  standing-now exchanges good all =
      root_stands old mid k2 space dir row rooted (λ page. None) planted.adds planted.puts.leaves standing is.used inside
      (has-tree row.kind is.kind) none refl refl some planted.good bank all exchanges good file-now owned-now

  machine-now : machine_of now ≡ record (machine_of k2) { inodes = with_at (inodes_of k2) dir (Some rooted) }
  machine-now = inode_written k2 now dir (Used rooted) (subst (λ rows. dir < length rows) (sym inodes-now) inside) refl

  table-now : with_at (inodes_of k2) dir (Some rooted) ≡ with_at (inodes_of old) dir (Some rooted)
  unfolding inodes_of
  table-now = ap (λ rows. with_at (λ n. held (slice_index_or rows n Unspelled)) dir (Some rooted)) inodes-now

  -- the places that the directory had, with one written
  abbrev places : List (Option Entry)
  places = set (places_for old row size) number (place_in bytes)

  places-now : places_in (stored (machine_of k2) rooted) (size / 32) ≡ places
  places-now =
      ap (λ xs. places_in xs (size / 32)) (bytes_put mid k2 space size (32 * number) bytes Directory whole in-page (omega (arith, long)) planted.puts)
      ∙ places-put (file_in before size) bytes number long (omega (arith, file-long before whole size)) (size / 32) below
      ∙ ap (λ xs. set xs number (place_in bytes))
      (same-places (file_in before size) (file_in (tree_memory old row.root) size) (size / 32)
      (λ k under.
      blank-place before whole size k (blank (k / 128)) (omega arith)
      ∙ sym (blank-place (tree_memory old row.root) (tree-whole old row.root standing is.tree) size k (page_absent old row.root (k / 128) none) (omega arith))))

  size-now : size % 32 ≡ 0 → 32 * length places ≡ size
  size-now exact =
      let same = length-set (places_for old row size) number (place_in bytes) in
      let count = places-long (file_in (tree_memory old row.root) size) (size / 32) in
      omega arith

  pub place-planted : (new : Kernel) → new ≡ now → size % 32 ≡ 0 → ExchangesRoots k2 new dir (Used rooted) → InodesGood new.inodes → AllWhole k2.bank → ChangesPlaces old new dir places
  unfolding machine_of
  place-planted new e exact exchanges good all = subst (λ (k : Kernel). ChangesPlaces old k dir places) (sym e) (record {
    row = row;
    root = space;
    there = is.there;
    machine = subst (λ n. ChangesMemory (with_tree (machine_of old) dir row space n) (machine_of now) space) (sym (size-now exact))
        (subst (λ (m : KernelMachine). ChangesMemory (with_tree (machine_of old) dir row space size) m space) (sym machine-now)
        (with-table (machine_of old) (machine_of k2) space (with_at (inodes_of old) dir (Some rooted)) (with_at (inodes_of k2) dir (Some rooted)) table-now
        (changes-now old mid k2 space dir row rooted (λ page. None) planted.adds planted.puts.leaves standing is.used inside (has-tree row.kind is.kind) none refl refl some)));
    view = root_seen old mid k2 space dir row rooted (λ page. None) planted.adds planted.puts.leaves standing is.used inside (has-tree row.kind is.kind) none refl refl some
        ∙ ap (λ i. with_files (view (machine_of old)) (with_inode (files_in (machine_of old)) dir i))
        (dir-in (machine_of k2) rooted is.kind ∙ ap₂ model.Directory (sym (parent-seen old dir row is)) places-now);
    standing = standing-now (subst (λ (k : Kernel). ExchangesRoots k2 k dir (Used rooted)) e exchanges) (subst (λ (k : Kernel). InodesGood k.inodes) e good) all;
  })
