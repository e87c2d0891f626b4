-- A file gets longer: its promise and its row are written.
use Rattle.std.proofs.Common.{◌≡◌, ℕ, ◌+◌, ◌-◌, ◌<◌, ◌≤◌, List, length, refl, ap, sym, ◌∙◌, arith}
use Rattle.std.proofs.lemmas.Bool.{lt-leb}
use Rattle.kernel_tables.specs.declared.inode.Inode.{Inode}
use Rattle.kernel_tables.specs.declared.row.Row.TheVariants.{Used}
use Rattle.kernel_tables.specs.Kernel.{Kernel}
use Rattle.space_bank.specs.Bank.{BankGood}
use Rattle.file_tables.specs.Roots.{ExchangesRoots}
use Rattle.file_tables.specs.Rows.{InodesGood}
use Rattle.unix_model.specs.FileCalls.{resized}
use Rattle.unix_model.specs.Numbers.{pages_of}
use Rattle.unix_model.specs.Room.{promised}
use Rattle.kernel_machine.specs.Contents.{file_in}
use Rattle.kernel_machine.specs.Machine.{machine_of}
use Rattle.kernel_machine.specs.Standing.{Standing}
use Rattle.kernel_machine.specs.View.{view, stored}
use Rattle.kernel_machine.proofs.PagesHeld.{file-long}
use Rattle.file_trees.specs.FileMemory.{IsFileMemory}
use Rattle.file_trees.specs.Trees.{tree_memory}
use Rattle.file_trees.proofs.Contents.{WholeTree}
use Rattle.file_trees.proofs.FileMemory.{file_grown, memory_grown}
use Rattle.file_trees.proofs.FileTrees.{memory_of_root}
use Rattle.file_trees.proofs.Promising.{promising}
use Rattle.file_domain.specs.Effects.{with_file, Resizes, NoRoom}
use Rattle.file_trees.specs.Good.{FilesGood}
use Rattle.file_domain.specs.Good.{IsFileAt}
use Rattle.file_domain.proofs.LengthRows.{promised_length, row_resizes}
use Rattle.file_domain.proofs.Rows.{with_row}
use Rattle.file_domain.proofs.Seen.{file_root}

-- the memory of the tree of a file
pub memory_of_file : (kernel : Kernel) (number : ℕ) (inode : Inode) → Standing kernel → IsFileAt kernel number inode → WholeTree (tree_memory kernel inode.root)
    → IsFileMemory (tree_memory kernel inode.root) inode.length
memory_of_file kernel number inode standing file whole = memory_of_root kernel inode.root inode.length whole (λ some. (file_root kernel number inode standing file some).2)

module _ (k0 : Kernel) (number size more : ℕ) (inode : Inode) (good : FilesGood k0) (below : number < 1024) (file : IsFileAt k0 number inode) (order : inode.length ≤ size) (whole : WholeTree (tree_memory k0 inode.root))
    (all : length k0.inodes ≡ 1024) (more_is : more ≡ pages_of size - pages_of inode.length) where
  is_memory : IsFileMemory (tree_memory k0 inode.root) inode.length
  is_memory = memory_of_file k0 number inode good.standing file whole

  abbrev bytes_now : List ℕ
  bytes_now = resized (stored (machine_of k0) inode) size

  grown : file_in (tree_memory k0 inode.root) size ≡ bytes_now
  grown = file_grown (tree_memory k0 inode.root) inode.length size whole is_memory order

  length_now : length bytes_now ≡ size
  length_now = ap length (sym grown) ∙ file-long (tree_memory k0 inode.root) whole size

  pages_is : k0.machine.promised + more + pages_of inode.length ≡ k0.machine.promised + pages_of size
  pages_is = omega (arith, more_is)

  -- how much is promised then
  promised_now : promised (with_file (view (machine_of k0)) number bytes_now) ≡ k0.machine.promised + more
  promised_now = promised_length k0 number size (k0.machine.promised + more) inode bytes_now good below file length_now pages_is

  pages_are : (with_file (view (machine_of k0)) number bytes_now).pages ≡ k0.machine.size
  unfolding view machine_of
  pages_are = refl

  pub has_none : (new : Kernel) → new ≡ k0 → k0.size < k0.machine.promised + more → NoRoom k0 new number inode size
  has_none new state full =
      let same = good.standing.bank.words.same_size in
      let promises = promised_now in
      let pages = pages_are in
      record {
        none = lt-leb (promised (with_file (view (machine_of k0)) number bytes_now)) (with_file (view (machine_of k0)) number bytes_now).pages (omega arith);
        state = state;
      }

  pub grows : (mid new : Kernel) → mid ≡ promising k0 (k0.machine.promised + more) → BankGood mid → new ≡ with_row mid number (record inode { length = size })
      → ExchangesRoots mid new number (Used (record inode { length = size })) → InodesGood new.inodes → Resizes k0 new number inode (record inode { length = size })
  grows = row_resizes k0 number size (k0.machine.promised + more) inode good below file all (memory_grown (tree_memory k0 inode.root) inode.length size is_memory order) grown pages_is
