-- The first piece of a file that has no tree: a tree is added, the piece is put, and the row gets its root.
use Rattle.std.proofs.Common.{◌≡◌, ◌≢◌, ℕ, zero, suc, ◌+◌, ◌%◌, ◌<◌, ◌≤◌, Option, Some, None, List, [], length, refl, ap, sym, subst, ◌∙◌, arith}
use Rattle.kn_base.specs.declared.key.Key.TheVariants.{Null}
use Rattle.kn_base.specs.Rows.{overwritten}
use Rattle.kn_base.proofs.RowLaws.{length-overwritten}
use Rattle.kernel_tables.specs.declared.entry.PageOwner.TheVariants.{File as FilePage}
use Rattle.kernel_tables.specs.declared.inode.Inode.{Inode}
use Rattle.kernel_tables.specs.declared.row.Row.{Row}
use Rattle.kernel_tables.specs.declared.row.Row.TheVariants.{Used}
use Rattle.kernel_tables.specs.Kernel.{Kernel, memory_page, inode_at}
use Rattle.kernel_tables.specs.Rows.{KeepsRows}
use Rattle.space_bank.specs.Bank.{BankGood}
use Rattle.file_tables.specs.Roots.{ExchangesRoots, named_by}
use Rattle.forest.specs.Calls.{AddsSpace}
use Rattle.file_tables.specs.Rows.{InodesGood}
use Rattle.forest.specs.Forest.{IsSpace}
use Rattle.forest.specs.Objects.{NodeObject, OfFile}
use Rattle.forest.specs.Walks.{Mapping, map_of}
use Rattle.kernel_forest.proofs.GivingNodes.{unreleased}
use Rattle.kernel_forest.specs.Owners.{page_owners, PagesAreOf}
use Rattle.kernel_forest.specs.Releases.{KeepsUnreleased}
use Rattle.kernel_forest.specs.Trees.{forest_of}
use Rattle.seg_tree.specs.Promises.{Adds}
use Rattle.seg_tree.proofs.Emptying.{unreleased_trans}
use Rattle.unix_model.specs.Files.{File, with_inode}
use Rattle.unix_model.specs.Memory.{Memory}
use Rattle.unix_model.specs.Room.{promised}
use Rattle.unix_model.specs.State.{Unix, with_files}
use Rattle.unix_model.specs.Tables.{at, with_at, nothing}
use Rattle.user_copy.specs.SpaceMemory.{memory_by}
use Rattle.kernel_machine.specs.Contents.{file_in, mapped_bytes}
use Rattle.kernel_machine.specs.Held.{AllWhole}
use Rattle.kernel_machine.specs.Loose.{Tree, StandingBut}
use Rattle.kernel_machine.specs.Machine.{KernelMachine, machine_of}
use Rattle.kernel_machine.specs.Standing.{Standing}
use Rattle.kernel_machine.specs.Trees.{IsFileTree, pages_owner}
use Rattle.kernel_machine.specs.View.{view, stored, file_memory, files_in, inodes_in, descriptions_in}
use Rattle.kernel_machine.proofs.AddStands.{standing_with_space}
use Rattle.kernel_machine.proofs.MachineLaws.{inode_written}
use Rattle.kernel_machine.proofs.PagesHeld.{file-long}
use Rattle.file_trees.specs.FileMemory.{IsFileMemory}
use Rattle.file_trees.specs.Pieces.{PutsInTree}
use Rattle.file_trees.specs.Trees.{tree_memory}
use Rattle.file_trees.proofs.Contents.{WholeTree}
use Rattle.file_trees.proofs.FileMemory.{memory_empty}
use Rattle.file_trees.proofs.FileTrees.{bytes_put, tree_put}
use Rattle.file_trees.proofs.Owned.{owned_none}
use Rattle.file_trees.proofs.Pages.{tree_is_space, zero_long}
use Rattle.file_trees.proofs.Pieces.{space_some}
use Rattle.file_trees.proofs.Rooting.{root_stands, root_seen}
use Rattle.file_trees.proofs.Views.{state-now}
use Rattle.file_domain.specs.Effects.{ChangesFile, with_file, PutsAt}
use Rattle.file_trees.specs.Good.{FilesGood}
use Rattle.file_domain.specs.Good.{IsFileAt}
use Rattle.file_domain.proofs.Keeping.{accounted_file, same_promise}
use Rattle.file_domain.proofs.Rows.{with_row, row_there, seen_row}
use Rattle.file_domain.proofs.Seen.{has-tree, seen_file}

-- no tree has no pages
no_pages : (kernel : Kernel) (root : ℕ) → root ≡ 0 → tree_memory kernel root ≡ nothing
unfolding file_memory
no_pages kernel zero e = refl
no_pages kernel (suc root) e = absurd (omega arith)

module _ (k0 k1 : Kernel) (number root : ℕ) (inode : Inode) (good : FilesGood k0) (file : IsFileAt k0 number inode) (none : inode.root ≡ 0)
    (adds : Adds k0 k1 root (Some OfFile) Null (λ page. None)) (bank1 : BankGood k1) where
  standing1 : StandingBut k1 (Tree root)
  standing1 = standing_with_space k0 k1 root OfFile (Some OfFile) Null (λ page. None) adds refl refl bank1 good.standing

  pub is1 : IsSpace (forest_of k1) [] root
  is1 = standing1.is_loose.taken.0

  pub owner1 : (forest_of k1).owner (NodeObject root) ≡ Some OfFile
  owner1 = standing1.is_loose.taken.1

  pub some1 : root ≢ 0
  some1 = space_some k1 root bank1 is1

  added : AddsSpace (forest_of k0) (forest_of k1) root (λ page. None)
  added = (adds.adds (named_by k0.inodes) good.standing.trees).1

  pub empty_map : (page : ℕ) → map_of (forest_of k1).keys root page ≡ None
  empty_map page = ap (λ (map : ℕ → Option Mapping). map page) added.here

  -- nothing is in the new tree
  pub empty : tree_memory k1 root ≡ nothing
  unfolding memory_by nothing
  empty = tree_is_space k1 root some1 ∙ ap (memory_by (memory_page k1)) added.here

  pub absent1 : (n : ℕ) → at (tree_memory k1 root) n ≡ None
  unfolding nothing at
  absent1 n = ap (λ (m : Memory). at m n) empty

  pub whole1 : WholeTree (tree_memory k1 root)
  whole1 n = ap (λ page. length (mapped_bytes page)) (absent1 n) ∙ zero_long

  memory1 : (size : ℕ) → IsFileMemory (tree_memory k1 root) size
  memory1 size = memory_empty (tree_memory k1 root) absent1 size

  module _ (k2 : Kernel) (place : ℕ) (bytes : List ℕ) (below : number < 1024) (all : length k0.inodes ≡ 1024) (any : 0 < length bytes) (inside : place % 4096 + length bytes ≤ 4096) (within : place + length bytes ≤ inode.length)
      (put : PutsInTree k1 k2 root place bytes FilePage) (bank2 : BankGood k2) (pages2 : AllWhole k2.bank) where
    abbrev row : Inode
    row = record inode { root = root }

    abbrev k3 : Kernel
    k3 = with_row k2 number row

    rest01 : KeepsUnreleased k0 k1
    rest01 = unreleased k0 k1 adds.rest

    rest02 : KeepsUnreleased k0 k2
    rest02 = unreleased_trans k0 k1 k2 rest01 put.leaves.rest

    rows02 : KeepsRows k0 k2
    rows02 = λ mine apart. put.leaves.rows_now mine apart ∙ adds.rows_now mine apart

    inodes2 : k2.inodes ≡ k0.inodes
    inodes2 = ap (λ (k : Kernel). k.inodes) rest02

    all2 : length k2.inodes ≡ 1024
    all2 = ap length inodes2 ∙ all

    pub file2 : IsFileAt k2 number inode
    file2 = record { there = ap (λ (rows : List (Row Inode)). inode_at (record k0 { inodes = rows }) number) inodes2 ∙ file.there; kind = file.kind }

    tree2 : IsFileTree (forest_of k2).keys (memory_page k2) root inode.length
    tree2 = tree_put k1 k2 root inode.length place bytes FilePage whole1 inside within put some1 any (memory1 inode.length)

    -- it had no pages, so all are of a file
    owned2 : PagesAreOf (pages_owner inode.kind) (page_owners k2) (map_of (forest_of k2).keys root)
    owned2 = subst (λ k. PagesAreOf (pages_owner k) (page_owners k2) (map_of (forest_of k2).keys root)) (sym file.kind)
        (put.owned (owned_none FilePage (page_owners k1) (map_of (forest_of k1).keys root) empty_map))

    number_inside : number < length k0.inodes
    number_inside = omega (arith, all)

    standing3 : ExchangesRoots k2 k3 number (Used row) → InodesGood k3.inodes → Standing k3
    standing3 exchanges rows =
        root_stands k0 k1 k2 root number inode row (λ page. None) adds put.leaves good.standing file.there number_inside
        (has-tree inode.kind file.kind) none refl refl some1 bank1 bank2 pages2 exchanges rows tree2 owned2

    -- ---- what is seen

    bytes2 : stored (machine_of k2) row ≡ overwritten (stored (machine_of k0) inode) place bytes
    bytes2 =
        bytes_put k1 k2 root inode.length place bytes FilePage whole1 inside within put
        ∙ ap (λ (m : Memory). overwritten (file_in m inode.length) place bytes) (empty ∙ sym (no_pages k0 inode.root none))

    file_seen : view (machine_of k3) ≡ with_file (view (machine_of k0)) number (overwritten (stored (machine_of k0) inode) place bytes)
    unfolding view inodes_in descriptions_in
    file_seen =
        root_seen k0 k1 k2 root number inode row (λ page. None) adds put.leaves good.standing file.there number_inside (has-tree inode.kind file.kind) none refl refl some1
        ∙ ap (λ seen. let unix : Unix = with_files (view (machine_of k0)) (with_inode (files_in (machine_of k0)) number seen) in unix) (seen_row k2 row file.kind ∙ ap File bytes2)

    long : length (stored (machine_of k0) inode) ≡ inode.length
    long = ap (λ (m : Memory). length (file_in m inode.length)) (no_pages k0 inode.root none ∙ sym empty) ∙ file-long (tree_memory k1 root) whole1 inode.length

    promises_now : promised (with_file (view (machine_of k0)) number (overwritten (stored (machine_of k0) inode) place bytes)) ≡ promised (view (machine_of k0))
    promises_now =
        same_promise (view (machine_of k0)) number (stored (machine_of k0) inode) (overwritten (stored (machine_of k0) inode) place bytes) below (seen_file k0 number inode file)
        (length-overwritten (stored (machine_of k0) inode) place bytes (omega (arith, long)))

    state_now :
        machine_of k3
        ≡ record (machine_of k0) {
          forest = (machine_of k3).forest;
          page_bytes = (machine_of k3).page_bytes;
          page_owner = (machine_of k3).page_owner;
          inodes = with_at (machine_of k0).inodes number (Some row);
          words = record (machine_of k3).words { size = k0.machine.size; quantum = k0.machine.quantum; position = k0.machine.position; next_pid = k0.machine.next_pid };
        }
    unfolding machine_of
    state_now =
        inode_written k2 k3 number (Used row) (let rows_all = all2 in omega arith) refl
        ∙ ap (λ (m : KernelMachine). let n : KernelMachine = record m { inodes = with_at m.inodes number (Some row) } in n) (state-now k0 k2 rest02 rows02)

    there3 : IsFileAt k3 number row
    there3 = row_there k2 number inode row all2 below file2 file.kind

    changes3 : ChangesFile k0 k3 number inode row
    changes3 = record { row = refl; there = there3.there; state = state_now }

    pub puts_first : ExchangesRoots k2 k3 number (Used row) → InodesGood k3.inodes → PutsAt k0 k3 number place bytes
    puts_first exchanges rows = record {
      inode = inode;
      was = file;
      now = row;
      changes = changes3;
      length_same = refl;
      seen = file_seen;
      promised_same = ap (λ (k : Kernel). k.machine.promised) rest02;
      good = record {
        standing = standing3 exchanges rows;
        accounted = accounted_file k0 k3 number inode row below changes3 (standing3 exchanges rows) good.accounted;
        promises = ap (λ (k : Kernel). k.machine.promised) rest02 ∙ good.promises ∙ sym (ap promised file_seen ∙ promises_now);
      };
      file = there3;
    }

    pub puts_first_by : (new : Kernel) → new ≡ k3 → ExchangesRoots k2 new number (Used row) → InodesGood new.inodes → PutsAt k0 new number place bytes
    puts_first_by new e exchanges rows =
        subst (λ (k : Kernel). PutsAt k0 k number place bytes) (sym e)
        (puts_first (subst (λ (k : Kernel). ExchangesRoots k2 k number (Used row)) e exchanges) (subst (λ (k : Kernel). InodesGood k.inodes) e rows))
