-- The numbers that the tables keep are those that are counted in the flat state.
use Rattle.std.specs.Prelude.{◌≡◌, ℕ, Option, Some, None}
use Rattle.std.specs.List.{count_by}
use Rattle.kernel_tables.specs.declared.inode.Inode.{Inode}
use Rattle.kernel_tables.specs.declared.description.Description.{Description}
use Rattle.unix_model.specs.Files as model
use Rattle.unix_model.specs.Files.{links, description_names}
use Rattle.unix_model.specs.Limits.{description_count, slot_count}
use Rattle.unix_model.specs.Process.{Process}
use Rattle.unix_model.specs.State.{names_description}
use Rattle.unix_model.specs.Tables.{at, count_below, sum_below}

-- how many descriptions are open on an inode
unfoldable pub opens : (ℕ → Option model.Description) → ℕ → ℕ
opens descriptions inode = count_below (λ number. description_names inode (at descriptions number)) description_count

-- how many descriptors of a process, and of all processes, name a description
abbrev pub process_descriptors : ℕ → Option Process → ℕ
process_descriptors description None = 0
process_descriptors description (Some process) = count_by (names_description description) process.descriptors

unfoldable pub descriptors_of : (ℕ → Option Process) → ℕ → ℕ
descriptors_of processes description = sum_below (λ slot. process_descriptors description (at processes slot)) slot_count

-- entries and opens of each inode, and descriptors of each description
pub record InodesCounted (inodes : ℕ → Option Inode) (seen : ℕ → Option model.Inode) (descriptions : ℕ → Option model.Description) : Type 0 where
  pub entries : (number : ℕ) (inode : Inode) → at inodes number ≡ Some inode → inode.entries ≡ links seen number
  pub opened : (number : ℕ) (inode : Inode) → at inodes number ≡ Some inode → inode.opens ≡ opens descriptions number

abbrev pub DescriptionsCounted : (ℕ → Option Description) → (ℕ → Option Process) → Type 0
DescriptionsCounted descriptions processes =
    (number : ℕ) (description : Description) → at descriptions number ≡ Some description → description.descriptors ≡ descriptors_of processes number
