-- The row of a file gets another length for which its tree is one already, and its promise goes along.
use Rattle.std.proofs.Common.{◌≡◌, ℕ, ◌+◌, ◌<◌, ◌≤◌, Some, List, [], length, refl, ap, sym, subst, ◌∙◌, arith}
use Rattle.kernel_tables.specs.declared.inode.Inode.{Inode}
use Rattle.kernel_tables.specs.declared.inode.InodeKind.TheVariants as kind
use Rattle.kernel_tables.specs.declared.row.Row.TheVariants.{Used}
use Rattle.kernel_tables.specs.Kernel.{Kernel, memory_page}
use Rattle.space_bank.specs.Bank.{BankGood}
use Rattle.file_tables.specs.Roots.{ExchangesRoots}
use Rattle.file_tables.specs.Rows.{InodesGood}
use Rattle.kernel_forest.specs.Owners.{page_owners}
use Rattle.kernel_forest.specs.Trees.{forest_of}
use Rattle.unix_model.specs.FileCalls.{resized}
use Rattle.unix_model.specs.Memory.{Memory}
use Rattle.unix_model.specs.Numbers.{pages_of}
use Rattle.unix_model.specs.Room.{promised}
use Rattle.unix_model.specs.Tables.{with_at}
use Rattle.user_copy.specs.SpaceMemory.{page_of}
use Rattle.kernel_machine.specs.Contents.{file_in}
use Rattle.kernel_machine.specs.Machine.{machine_of, inodes_of, descriptions_of}
use Rattle.kernel_machine.specs.Trees.{IsRootOf}
use Rattle.kernel_machine.specs.View.{view, stored}
use Rattle.kernel_machine.proofs.MachineLaws.{inode_written}
use Rattle.kernel_machine.proofs.PageHolders.{file-whole}
use Rattle.kernel_machine.proofs.PagesHeld.{file-long}
use Rattle.file_trees.specs.FileMemory.{IsFileMemory}
use Rattle.file_trees.specs.Trees.{tree_memory}
use Rattle.file_trees.proofs.Contents.{WholeTree}
use Rattle.file_trees.proofs.FileTrees.{memory_to_tree, there_found}
use Rattle.file_trees.proofs.Promising.{promising, promise_unseen, same_tree}
use Rattle.file_domain.specs.Effects.{with_file, Resizes}
use Rattle.file_trees.specs.Good.{FilesGood}
use Rattle.file_domain.specs.Good.{IsFileAt}
use Rattle.file_domain.proofs.CutMemory.{shorter}
use Rattle.file_domain.proofs.Keeping.{accounted_still, promised_file}
use Rattle.file_domain.proofs.Parts.{has}
use Rattle.file_domain.proofs.Rows.{with_row, promise_stands, row_there, row_all, row_seen, row_stands}
use Rattle.file_domain.proofs.Seen.{seen_file, file_root}

-- what is promised for a file is promised
pub file_promised : (kernel : Kernel) (number : ℕ) (inode : Inode) → FilesGood kernel → number < 1024 → IsFileAt kernel number inode
    → pages_of inode.length ≤ kernel.machine.promised
file_promised kernel number inode good below file =
    let change = promised_file (view (machine_of kernel)) number (stored (machine_of kernel) inode) [] below (seen_file kernel number inode file) in
    let long : pages_of (length (stored (machine_of kernel) inode)) ≡ pages_of inode.length = ap pages_of (file-long (tree_memory kernel inode.root) (file-whole kernel good.accounted inode.root) inode.length) in
    let promises = good.promises in
    omega arith

-- how much is promised once a file has other bytes
pub promised_length : (kernel : Kernel) (number size pages : ℕ) (inode : Inode) (bytes : List ℕ) → FilesGood kernel → number < 1024 → IsFileAt kernel number inode
    → length bytes ≡ size → pages + pages_of inode.length ≡ kernel.machine.promised + pages_of size → promised (with_file (view (machine_of kernel)) number bytes) ≡ pages
promised_length kernel number size pages inode bytes good below file short pages_is =
    let change = promised_file (view (machine_of kernel)) number (stored (machine_of kernel) inode) bytes below (seen_file kernel number inode file) in
    let long : pages_of (length (stored (machine_of kernel) inode)) ≡ pages_of inode.length = ap pages_of (file-long (tree_memory kernel inode.root) (file-whole kernel good.accounted inode.root) inode.length) in
    let now : pages_of (length bytes) ≡ pages_of size = ap pages_of short in
    let promises = good.promises in
    omega arith

-- the first bytes of a file are those of its tree at a shorter length
pub shorter_bytes : (kernel : Kernel) (size : ℕ) (inode : Inode) → FilesGood kernel → size ≤ inode.length → file_in (tree_memory kernel inode.root) size ≡ resized (stored (machine_of kernel) inode) size
shorter_bytes kernel size inode good order =
    let whole : WholeTree (tree_memory kernel inode.root) = file-whole kernel good.accounted inode.root in
    shorter (tree_memory kernel inode.root) (tree_memory kernel inode.root) size inode.length whole whole order (λ i under. refl)

module _ (k0 : Kernel) (number size pages : ℕ) (inode : Inode) (good : FilesGood k0) (below : number < 1024) (file : IsFileAt k0 number inode) (all : length k0.inodes ≡ 1024)
    (is : IsFileMemory (tree_memory k0 inode.root) size) (bytes_are : file_in (tree_memory k0 inode.root) size ≡ resized (stored (machine_of k0) inode) size) (pages_is : pages + pages_of inode.length ≡ k0.machine.promised + pages_of size) where
  whole : WholeTree (tree_memory k0 inode.root)
  whole = file-whole k0 good.accounted inode.root

  abbrev row : Inode
  row = record inode { length = size }

  abbrev k1 : Kernel
  k1 = promising k0 pages

  abbrev k2 : Kernel
  k2 = with_row k1 number row

  abbrev bytes_now : List ℕ
  bytes_now = resized (stored (machine_of k0) inode) size

  file1 : IsFileAt k1 number inode
  file1 = record { there = file.there; kind = file.kind }

  root1 : IsRootOf (forest_of k1) (memory_page k1) (page_owners k1) row kind.File
  root1 some =
      let was = file_root k0 number inode good.standing file some in
      let t = was.2.some_page in
      let now = memory_to_tree k0 inode.root size some whole t.0 (page_of (memory_page k0) t.1) (there_found k0 inode.root t.0 t.1 some t.2) is in
      (was.0, was.1, now, was.3)

  seen : view (machine_of k2) ≡ with_file (view (machine_of k0)) number bytes_now
  seen =
      row_seen k1 number inode row all below file1 file.kind
      ∙ ap (λ unix. with_file unix number (stored (machine_of k1) row)) (promise_unseen k0 pages)
      ∙ ap (with_file (view (machine_of k0)) number) (ap (λ (memory : Memory). file_in memory size) (same_tree k0 pages inode.root) ∙ bytes_are)

  promised_now : promised (with_file (view (machine_of k0)) number bytes_now) ≡ pages
  promised_now = promised_length k0 number size pages inode bytes_now good below file (ap length (sym bytes_are) ∙ file-long (tree_memory k0 inode.root) whole size) pages_is

  state_now :
      machine_of k2
      ≡ record (machine_of k0) {
        forest = (machine_of k2).forest;
        page_bytes = (machine_of k2).page_bytes;
        page_owner = (machine_of k2).page_owner;
        inodes = with_at (machine_of k0).inodes number (Some row);
        words = record (machine_of k2).words { size = k0.machine.size; quantum = k0.machine.quantum; position = k0.machine.position; next_pid = k0.machine.next_pid };
      }
  unfolding machine_of inodes_of descriptions_of
  state_now = inode_written k1 k2 number (Used row) (omega arith) refl

  resizes_to : BankGood k1 → ExchangesRoots k1 k2 number (Used row) → InodesGood k2.inodes → Resizes k0 k2 number inode row
  resizes_to bank exchanges inodes =
      let standing1 = promise_stands k0 pages bank good.standing in
      let standing2 = row_stands k1 number inode row all below file1 file.kind refl exchanges inodes root1 standing1 in
      let good2 : FilesGood k2 = record {
        standing = standing2;
        accounted = accounted_still k0 k2 refl refl (row_all k1 number inode row all below file1 file.kind) standing2 good.accounted;
        promises = sym (ap promised seen ∙ promised_now);
      } in
      record {
        changes = record { row = refl; there = (row_there k1 number inode row all below file1 file.kind).there; state = state_now };
        seen = seen;
        room = has k2 good2;
        good = good2;
        file = row_there k1 number inode row all below file1 file.kind;
      }

  pub row_resizes : (mid new : Kernel) → mid ≡ k1 → BankGood mid → new ≡ with_row mid number row → ExchangesRoots mid new number (Used row) → InodesGood new.inodes → Resizes k0 new number inode row
  row_resizes mid new e bank state exchanges inodes =
      let whole_state : new ≡ k2 = state ∙ ap (λ (k : Kernel). with_row k number row) e in
      subst (λ (k : Kernel). Resizes k0 k number inode row) (sym whole_state)
      (resizes_to (subst BankGood e bank)
      (subst (λ (k : Kernel). ExchangesRoots k (with_row k number row) number (Used row)) e (subst (λ (k : Kernel). ExchangesRoots mid k number (Used row)) state exchanges))
      (subst (λ (k : Kernel). InodesGood k.inodes) whole_state inodes))
