-- Inodes that go: what is asked, and what is given back.
use Rattle.std.specs.Prelude.{◌≡◌, ℕ, ◌+◌, ◌-◌, ◌&&◌, None, is_some, is_none}
use Rattle.kernel_tables.specs.declared.inode.Inode.{Inode}
use Rattle.kernel_tables.specs.declared.inode.InodeKind.{InodeKind}
use Rattle.kernel_tables.specs.declared.inode.InodeKind.TheVariants as kind
use Rattle.kernel_tables.specs.declared.row.Row.TheVariants.{Free, Used}
use Rattle.kernel_tables.specs.Kernel.{Kernel, inode_at, first_page}
use Rattle.kernel_tables.specs.Rows.{KeepsRows, entry_at, fixed_rows}
use Rattle.space_bank.specs.Bank.{IsTakenOnce}
use Rattle.forest.specs.Forest.{Forest}
use Rattle.forest.specs.Objects.{PageObject}
use Rattle.kernel_forest.specs.Owners.{page_owners}
use Rattle.kernel_forest.specs.Releases.{KeepsUnreleased}
use Rattle.kernel_forest.specs.Trees.{forest_of}
use Rattle.unix_model.specs.Files.{inode_pages, links, with_inode_dropped}
use Rattle.unix_model.specs.Numbers.{pages_of}
use Rattle.unix_model.specs.State.{with_files}
use Rattle.unix_model.specs.Tables.{at, with_at, count_below}
use Rattle.kernel_machine.specs.Counts.{opens}
use Rattle.kernel_machine.specs.Machine.{machine_of}
use Rattle.kernel_machine.specs.Standing.{Standing}
use Rattle.kernel_machine.specs.Trees.{HasTree}
use Rattle.kernel_machine.specs.View.{view}
use Rattle.file_trees.specs.Good.{FilesGood}

-- ---- what is asked

-- An inode without entries and opens: its row says so, and says what is counted in the flat state.
pub record IsUnnamed (kernel : Kernel) (number : ℕ) (inode : Inode) : Type 0 where
  pub there : inode_at kernel number ≡ Used inode
  pub no_entries : inode.entries ≡ 0
  pub no_opens : inode.opens ≡ 0
  pub entries_counted : inode.entries ≡ links (view (machine_of kernel)).files.inodes number
  pub opens_counted : inode.opens ≡ opens (view (machine_of kernel)).files.descriptions number

-- a page of the bank is named once
abbrev pub IsNamedOnce : Kernel → ℕ → Type 0
IsNamedOnce kernel page = IsTakenOnce (entry_at kernel.page_entries (page - first_page kernel.size))

-- ---- what is given back

-- how many pages of a bank belonged to trees before, and belong to none now
unfoldable pub pages_given : Forest → Forest → (first size : ℕ) → ℕ
pages_given old new first size = count_below (λ n. is_some (old.owner (PageObject (first + n))) && is_none (new.owner (PageObject (first + n)))) size

-- What an inode had was given back: of a tree each page that no tree has any more, and of a pipe its page.
pub record GivesBack (old new : Kernel) (root : ℕ) (its : InodeKind) : Type 0 where
  pub of_tree : HasTree its → new.machine.pages_taken + pages_given (forest_of old) (forest_of new) (first_page old.size) old.size ≡ old.machine.pages_taken
  pub of_pipe : its ≡ kind.Pipe
      → (new.machine.pages_taken + 1 ≡ old.machine.pages_taken) × (forest_of new ≡ forest_of old) × (page_owners new ≡ with_at (page_owners old) root None)

-- The root that a row of a kind had was loose, and was given back: all stands, and what is seen is the same.
pub record Releases (old new : Kernel) (root : ℕ) (its : InodeKind) : Type 0 where
  pub standing : Standing new
  pub rest : KeepsUnreleased old new
  pub rows_now : KeepsRows old new
  pub seen : view (machine_of new) ≡ view (machine_of old)
  pub given : GivesBack old new root its

-- the pages that an inode is promised, by its row
abbrev pub row_pages : InodeKind → ℕ → ℕ
row_pages kind.File length = pages_of length
row_pages kind.Dir length = pages_of length
row_pages kind.Pipe length = 1
row_pages kind.Console length = 0

-- An inode is gone, with all that it had, and in the flat state nothing else has changed. Of the machine there are other trees, with the
-- bytes of pages and who owns these, no inode of the number, and more of the bank that isn't promised and isn't taken.
pub record DropsInode (old new : Kernel) (number : ℕ) (inode : Inode) : Type 0 where
  pub free : inode_at new number ≡ Free
  pub state :
      machine_of new
      ≡ record (machine_of old) {
        forest = (machine_of new).forest;
        page_bytes = (machine_of new).page_bytes;
        page_owner = (machine_of new).page_owner;
        inodes = with_at (machine_of old).inodes number None;
        words = record (machine_of new).words { size = old.machine.size; quantum = old.machine.quantum; position = old.machine.position; next_pid = old.machine.next_pid };
      }
  pub seen : view (machine_of new) ≡ with_files (view (machine_of old)) (with_inode_dropped (view (machine_of old)).files number)
  pub promised : new.machine.promised + inode_pages (at (view (machine_of old)).files.inodes number) ≡ old.machine.promised
  pub given : GivesBack old new inode.root inode.kind
  pub fixed_same : fixed_rows new ≡ fixed_rows old
  pub good : FilesGood new
