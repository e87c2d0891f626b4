-- The tree of a file is given up: its row gets a length of which no page is there, and no root, and the tree is released.
use Rattle.std.proofs.Common.{◌≡◌, ◌≢◌, ℕ, ◌+◌, ◌/◌, ◌%◌, ◌<◌, ◌≤◌, Some, List, length, get_or, refl, ap, sym, subst, ◌∙◌, arith}
use Rattle.kernel_tables.specs.declared.inode.Inode.{Inode}
use Rattle.kernel_tables.specs.declared.inode.InodeKind.TheVariants as kind
use Rattle.kernel_tables.specs.declared.row.Row.{Row}
use Rattle.kernel_tables.specs.declared.row.Row.TheVariants.{Used}
use Rattle.kernel_tables.specs.Kernel.{Kernel, memory_page, inode_at, inode_count}
use Rattle.kernel_tables.specs.Rows.{of_domain, is_fixed}
use Rattle.space_bank.specs.Bank.{BankGood}
use Rattle.file_tables.specs.Roots.{ExchangesRoots}
use Rattle.file_tables.specs.Rows.{InodesGood, IsInodeAt, IsOfKind}
use Rattle.forest.specs.Objects.{OfFile}
use Rattle.kernel_forest.specs.Owners.{page_owners}
use Rattle.kernel_forest.specs.Trees.{forest_of}
use Rattle.kernel_forest.proofs.RowLaws.{domains_apart, fixed_apart}
use Rattle.seg_tree.specs.Promises.{Drops}
use Rattle.unix_model.specs.FileCalls.{resized}
use Rattle.unix_model.specs.Numbers.{pages_of}
use Rattle.unix_model.specs.Room.{promised}
use Rattle.unix_model.specs.Tables.{with_at}
use Rattle.domain.specs.Domains.{domain_at, roots_by}
use Rattle.kernel_machine.specs.Contents.{file_in}
use Rattle.kernel_machine.specs.Held.{AllWhole}
use Rattle.kernel_machine.specs.Loose.{Nothing, Tree, StandingBut, root_of, word_of}
use Rattle.kernel_machine.specs.Machine.{KernelMachine, machine_of, inodes_of, descriptions_of}
use Rattle.kernel_machine.specs.Standing.{Standing}
use Rattle.kernel_machine.specs.Trees.{IsRootOf}
use Rattle.kernel_machine.specs.View.{view, stored}
use Rattle.kernel_machine.proofs.DropStands.{standing_with_space_dropped}
use Rattle.kernel_machine.proofs.LooseLaws.{nothing_loose, tree-word}
use Rattle.kernel_machine.proofs.MachineLaws.{inode_written}
use Rattle.kernel_machine.proofs.PageHolders.{file-whole}
use Rattle.kernel_machine.proofs.PagesHeld.{file-long}
use Rattle.kernel_machine.proofs.RootStands.{standing_with_root}
use Rattle.file_trees.specs.Trees.{tree_memory}
use Rattle.file_trees.proofs.Contents.{WholeTree}
use Rattle.file_trees.proofs.Pages.{page_absent, page_none, zero_long}
use Rattle.file_trees.proofs.Promising.{promising, promise_unseen}
use Rattle.file_domain.specs.Cutting.{MapsNoneBelow}
use Rattle.file_domain.specs.Effects.{with_file, Resizes}
use Rattle.file_trees.specs.Good.{FilesGood}
use Rattle.file_domain.specs.Good.{IsFileAt}
use Rattle.file_domain.proofs.CutMemory.{shorter}
use Rattle.file_domain.proofs.Keeping.{accounted_still}
use Rattle.file_domain.proofs.LengthRows.{promised_length}
use Rattle.file_domain.proofs.Parts.{has}
use Rattle.file_domain.proofs.Rows.{with_row, promise_stands, row_there, row_all, row_seen}
use Rattle.file_domain.proofs.Seen.{has-tree, right_row, file_row}
use Rattle.file_domain.proofs.Unseen.{drop_unseen}
use Rattle.file_trees.proofs.Views.{state-now}

-- ---- the row, and then the tree

module _ (k0 : Kernel) (number size pages : ℕ) (inode : Inode) (good : FilesGood k0) (below : number < 1024) (file : IsFileAt k0 number inode) (all : length k0.inodes ≡ 1024)
    (some : inode.root ≢ 0) (order : size ≤ inode.length) (none : MapsNoneBelow k0 inode.root (pages_of size)) (pages_is : pages + pages_of inode.length ≡ k0.machine.promised + pages_of size) where
  whole : WholeTree (tree_memory k0 inode.root)
  whole = file-whole k0 good.accounted inode.root

  abbrev row : Inode
  row = record inode { length = size; root = 0 }

  abbrev k1 : Kernel
  k1 = promising k0 pages

  abbrev k2 : Kernel
  k2 = with_row k1 number row

  abbrev bytes_now : List ℕ
  bytes_now = resized (stored (machine_of k0) inode) size

  file1 : IsFileAt k1 number inode
  file1 = record { there = file.there; kind = file.kind }

  whole_none : WholeTree (tree_memory k1 0)
  whole_none n = ap length (page_absent k1 0 n refl) ∙ zero_long

  -- all bytes of the pages that aren't there are zero
  bytes_are : file_in (tree_memory k1 0) size ≡ bytes_now
  bytes_are = shorter (tree_memory k1 0) (tree_memory k0 inode.root) size inode.length whole_none whole order (λ i under.
      ap (λ page. get_or page (i % 4096) 0) (page_absent k1 0 (i / 4096) refl ∙ sym (page_none k0 inode.root (i / 4096) some (none (i / 4096) (omega arith)))))

  seen2 : view (machine_of k2) ≡ with_file (view (machine_of k0)) number bytes_now
  seen2 =
      row_seen k1 number inode row all below file1 file.kind
      ∙ ap (λ unix. with_file unix number (stored (machine_of k1) row)) (promise_unseen k0 pages)
      ∙ ap (with_file (view (machine_of k0)) number) bytes_are

  root1 : IsRootOf (forest_of k1) (memory_page k1) (page_owners k1) row kind.File
  root1 real = absurd (real refl)

  row_has : root_of (Used row) ≡ Nothing
  row_has = ap (λ k. word_of k 0) file.kind

  row_had : root_of (inode_at k1 number) ≡ Tree inode.root
  row_had = ap root_of file1.there ∙ tree-word inode.kind inode.root (has-tree inode.kind file.kind) some

  stands2 : BankGood k1 → ExchangesRoots k1 k2 number (Used row) → InodesGood k2.inodes → StandingBut k2 (Tree inode.root)
  stands2 bank exchanges rows =
      subst (StandingBut k2) row_had
      (standing_with_root k1 k2 number (Used row) (omega arith) refl exchanges rows (subst (IsRootOf (forest_of k1) (memory_page k1) (page_owners k1) row) (sym file.kind) root1)
      (subst (StandingBut k1) (sym row_has) ((nothing_loose k1).0 (promise_stands k0 pages bank good.standing))))

  -- the tree is loose once the row is written
  pub gives_up : (mid new : Kernel) → mid ≡ k1 → BankGood mid → new ≡ with_row mid number row → ExchangesRoots mid new number (Used row) → InodesGood new.inodes → StandingBut new (Tree inode.root)
  gives_up mid new e bank state exchanges rows =
      let whole_state : new ≡ k2 = state ∙ ap (λ (k : Kernel). with_row k number row) e in
      subst (λ (k : Kernel). StandingBut k (Tree inode.root)) (sym whole_state)
      (stands2 (subst BankGood e bank)
      (subst (λ (k : Kernel). ExchangesRoots k (with_row k number row) number (Used row)) e (subst (λ (k : Kernel). ExchangesRoots mid k number (Used row)) state exchanges))
      (subst (λ (k : Kernel). InodesGood k.inodes) whole_state rows))

  module _ (k3 : Kernel) (standing : StandingBut k2 (Tree inode.root)) (drops : Drops k2 k3 inode.root) (bank3 : BankGood k3) (pages3 : AllWhole k3.bank) where
    inodes3 : k3.inodes ≡ k2.inodes
    inodes3 = ap (λ (k : Kernel). k.inodes) drops.rest

    there2 : IsFileAt k2 number row
    there2 = row_there k1 number inode row all below file1 file.kind

    there3 : IsFileAt k3 number row
    there3 = record { there = ap (λ (rows : List (Row Inode)). inode_at (record k2 { inodes = rows }) number) inodes3 ∙ there2.there; kind = file.kind }

    seen3 : view (machine_of k3) ≡ with_file (view (machine_of k0)) number bytes_now
    seen3 = drop_unseen k2 k3 inode.root standing drops bank3 ∙ seen2

    promised_now : promised (with_file (view (machine_of k0)) number bytes_now) ≡ pages
    promised_now = promised_length k0 number size pages inode bytes_now good below file (ap length (sym bytes_are) ∙ file-long (tree_memory k1 0) whole_none size) pages_is

    state_now :
        machine_of k3
        ≡ record (machine_of k0) {
          forest = (machine_of k3).forest;
          page_bytes = (machine_of k3).page_bytes;
          page_owner = (machine_of k3).page_owner;
          inodes = with_at (machine_of k0).inodes number (Some row);
          words = record (machine_of k3).words { size = k0.machine.size; quantum = k0.machine.quantum; position = k0.machine.position; next_pid = k0.machine.next_pid };
        }
    unfolding machine_of inodes_of descriptions_of
    state_now =
        state-now k2 k3 drops.rest drops.rows_now
        ∙ ap (λ (m : KernelMachine). let n : KernelMachine = record m {
          forest = (machine_of k3).forest;
          page_bytes = (machine_of k3).page_bytes;
          page_owner = (machine_of k3).page_owner;
          words = record (machine_of k3).words { size = k0.machine.size; quantum = k0.machine.quantum; position = k0.machine.position; next_pid = k0.machine.next_pid };
        } in n) (inode_written k1 k2 number (Used row) (omega arith) refl)

    dropped_to : Resizes k0 k3 number inode row
    dropped_to =
        let standing3 : Standing k3 = standing_with_space_dropped k2 k3 inode.root OfFile drops bank3 pages3 standing in
        let good3 : FilesGood k3 = record {
          standing = standing3;
          accounted = accounted_still k0 k3 (ap roots_by (drops.rows_now is_fixed fixed_apart)) (ap domain_at (drops.rows_now of_domain domains_apart))
              (ap length inodes3 ∙ row_all k1 number inode row all below file1 file.kind) standing3 good.accounted;
          promises = ap (λ (k : Kernel). k.machine.promised) drops.rest ∙ sym (ap promised seen3 ∙ promised_now);
        } in
        record {
          changes = record { row = refl; there = there3.there; state = state_now };
          seen = seen3;
          room = has k3 good3;
          good = good3;
          file = there3;
        }

  pub drops_to : (mid new last : Kernel) → mid ≡ k1 → new ≡ with_row mid number row → StandingBut new (Tree inode.root) → Drops new last inode.root → BankGood last → AllWhole last.bank → Resizes k0 last number inode row
  drops_to mid new last e state standing drops bank pages =
      let whole_state : new ≡ k2 = state ∙ ap (λ (k : Kernel). with_row k number row) e in
      dropped_to last (subst (λ (k : Kernel). StandingBut k (Tree inode.root)) whole_state standing) (subst (λ (k : Kernel). Drops k last inode.root) whole_state drops) bank pages

-- the row that is left
pub rootless_row : (kernel : Kernel) (number size : ℕ) (inode : Inode) → Standing kernel → number < inode_count → IsFileAt kernel number inode → size ≤ 4194304
    → IsInodeAt number (record inode { length = size; root = 0 })
rootless_row kernel number size inode standing below file most =
    let right = right_row kernel number inode standing below file in
    let row = file_row kernel number inode standing below file in
    record {
      of_kind = subst (λ k. IsOfKind k (record inode { length = size; root = 0 })) (sym file.kind) (record { length = most; no_parent = row.no_parent; no_start = row.no_start });
      console = right.console;
      root_kind = right.root_kind;
      root_parent = right.root_parent;
    }
