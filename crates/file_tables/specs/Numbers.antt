-- The least free numbers of inodes and of open descriptions.
use Rattle.std.specs.Prelude.{◌≡◌, ℕ, ◌<◌, ◌≤◌, Bool, true, false, Option, Some, None, List, slice_index_or, slice_set}
use Rattle.kernel_tables.specs.declared.row.Row.{Row}
use Rattle.kernel_tables.specs.declared.row.Row.TheVariants.{Free, Used, Unspelled}
use Rattle.kernel_tables.specs.declared.inode.InodeKind.{InodeKind}
use Rattle.kernel_tables.specs.declared.inode.Inode.{Inode}
use Rattle.kernel_tables.specs.declared.description.Description.{Description}
use Rattle.kernel_tables.specs.Kernel.{Kernel, inode_at, description_at, inode_count, description_count}
use Rattle.unix_model.specs.Tables.{least_below}

-- whether a row is free
abbrev pub is_free_row : {X : Type 0} → Row X → Bool
is_free_row Free = true
is_free_row (Used x) = false
is_free_row Unspelled = false

-- the least free number, or None where no row is free
unfoldable pub least_free : {X : Type 0} → List (Row X) → ℕ → Option ℕ
least_free rows count = least_below (λ number. is_free_row (slice_index_or rows number Unspelled)) count

abbrev pub least_free_inode : Kernel → Option ℕ
least_free_inode kernel = least_free kernel.inodes inode_count

abbrev pub least_free_description : Kernel → Option ℕ
least_free_description kernel = least_free kernel.descriptions description_count

-- an inode of a kind that holds nothing and that nothing names
abbrev pub fresh_inode : InodeKind → Inode
fresh_inode kind = record { kind = kind; length = 0; entries = 0; opens = 0; root = 0; parent = 0; start = 0 }

-- A new inode got the least free number.
pub record TakesInode (old new : Kernel) (kind : InodeKind) (number : ℕ) : Type 0 where
  pub least : least_free_inode old ≡ Some number
  pub low : 2 ≤ number
  pub high : number < inode_count
  pub was_free : inode_at old number ≡ Free
  pub state : new ≡ record old { inodes = slice_set old.inodes number (Used (fresh_inode kind)) }

-- No inode number is free, and nothing has changed.
pub record NoInodeFree (old new : Kernel) : Type 0 where
  pub none : least_free_inode old ≡ None
  pub state : new ≡ old

-- A description got the least free number.
pub record TakesDescription (old new : Kernel) (description : Description) (number : ℕ) : Type 0 where
  pub least : least_free_description old ≡ Some number
  pub high : number < description_count
  pub was_free : description_at old number ≡ Free
  pub state : new ≡ record old { descriptions = slice_set old.descriptions number (Used description) }

-- No number of a description is free, and nothing has changed.
pub record NoDescriptionFree (old new : Kernel) : Type 0 where
  pub none : least_free_description old ≡ None
  pub state : new ≡ old
