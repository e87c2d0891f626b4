-- What calls on files do, in the words of the definitions.
use Rattle.std.specs.Prelude.{◌≡◌, ℕ, ◌-◌, ◌++◌, ◌==◌, if◌then◌else◌, nat_le, Some, true, false, List, length, take, drop, Result, Ok, Err}
use Rattle.kn_base.specs.Rows.{overwritten as put_over}
use Rattle.kernel_tables.specs.declared.inode.Inode.{Inode}
use Rattle.kernel_tables.specs.declared.row.Row.TheVariants.{Used}
use Rattle.kernel_tables.specs.Kernel.{Kernel, inode_at}
use Rattle.unix_model.specs.declared.calls.Errno.{Errno}
use Rattle.unix_model.specs.declared.calls.Errno.TheVariants.{Efbig, Enospc}
use Rattle.unix_model.specs.FileCalls.{overwritten, resized}
use Rattle.unix_model.specs.Files.{File, with_inode}
use Rattle.unix_model.specs.Limits.{most_file_bytes}
use Rattle.unix_model.specs.Refusals.{◌>>◌, refuse◌when◌, refuse◌where_not◌}
use Rattle.unix_model.specs.Room.{has_room}
use Rattle.unix_model.specs.State.{Unix, with_files}
use Rattle.unix_model.specs.Tables.{with_at}
use Rattle.kernel_machine.specs.Machine.{machine_of}
use Rattle.kernel_machine.specs.View.{view, stored}
use Rattle.file_trees.specs.Good.{FilesGood}
use Rattle.file_domain.specs.Good.{IsFileAt}

-- Bytes of a file were read from a place on, as many as there are and as there was room for; the rest of the room is as it was.
pub record Reads (bytes : List ℕ) (place : ℕ) (old new : List ℕ) (count : ℕ) : Type 0 where
  pub number : count ≡ length (take (length old) (drop place bytes))
  pub bytes_now : new ≡ take (length old) (drop place bytes) ++ drop count old

-- the flat state with other bytes in the file of a number
abbrev pub with_file : Unix → ℕ → List ℕ → Unix
with_file unix number bytes = with_files unix (with_inode unix.files number (File bytes))

-- Of the machine one file is another one: its length and its root, trees with the bytes of pages and who owns these, and how much of the bank
-- is promised and taken.
pub record ChangesFile (old new : Kernel) (number : ℕ) (inode now : Inode) : Type 0 where
  pub row : now ≡ record inode { length = now.length; root = now.root }
  pub there : inode_at new number ≡ Used now
  pub state :
      machine_of new
      ≡ record (machine_of old) {
        forest = (machine_of new).forest;
        page_bytes = (machine_of new).page_bytes;
        page_owner = (machine_of new).page_owner;
        inodes = with_at (machine_of old).inodes number (Some now);
        words = record (machine_of new).words { size = old.machine.size; quantum = old.machine.quantum; position = old.machine.position; next_pid = old.machine.next_pid };
      }

-- A file has another length: it was cut, or has zeros behind its bytes. No more is promised than there is.
pub record Resizes (old new : Kernel) (number : ℕ) (inode now : Inode) : Type 0 where
  pub changes : ChangesFile old new number inode now
  pub seen : view (machine_of new) ≡ with_file (view (machine_of old)) number (resized (stored (machine_of old) inode) now.length)
  pub room : has_room (view (machine_of new)) ≡ true
  pub good : FilesGood new
  pub file : IsFileAt new number now

-- There is no room for a file of a length, and nothing has changed.
pub record NoRoom (old new : Kernel) (number : ℕ) (inode : Inode) (size : ℕ) : Type 0 where
  pub none : has_room (with_file (view (machine_of old)) number (resized (stored (machine_of old) inode) size)) ≡ false
  pub state : new ≡ old

-- Bytes were written over others of a file, within its length.
pub record PutsAt (old new : Kernel) (number place : ℕ) (bytes : List ℕ) : Type 0 where
  pub inode : Inode
  pub was : IsFileAt old number inode
  pub now : Inode
  pub changes : ChangesFile old new number inode now
  pub length_same : now.length ≡ inode.length
  pub seen : view (machine_of new) ≡ with_file (view (machine_of old)) number (put_over (stored (machine_of old) inode) place bytes)
  pub promised_same : new.machine.promised ≡ old.machine.promised
  pub good : FilesGood new
  pub file : IsFileAt new number now

-- ---- a whole write

-- the bytes of a write that a file has places for: those past its greatest length are cut off
abbrev pub part_within : ℕ → List ℕ → List ℕ
part_within place written = take (most_file_bytes - place) written

-- The state with a part written to a file from a place on, a gap before it zero, or why there is none.
abbrev pub with_part_written : Unix → ℕ → List ℕ → ℕ → List ℕ → Result Unix Errno
with_part_written unix number bytes place part = do
  refuse Efbig when nat_le most_file_bytes place
  refuse Enospc where_not has_room (with_file unix number (overwritten bytes place part))
  Ok (with_file unix number (overwritten bytes place part))

-- The same for all bytes of a write, as the line of write on a file has it without the offset of a description: no bytes change
-- nothing, wherever they would begin.
abbrev pub with_bytes_written : Unix → ℕ → List ℕ → ℕ → List ℕ → Result Unix Errno
with_bytes_written unix number bytes place written =
    if length written == 0 then Ok unix else with_part_written unix number bytes place (part_within place written)

-- Of the machine one file is another one, and what calls on files ask holds.
pub record LeavesFiles (old new : Kernel) (number : ℕ) (inode : Inode) : Type 0 where
  pub now : Inode
  pub changes : ChangesFile old new number inode now
  pub good : FilesGood new
  pub file : IsFileAt new number now

-- The flat state is the one that a line says, and a count is answered; or the line is refused, and nothing has changed.
abbrev pub WritesBy : Result Unix Errno → Kernel → Kernel → ℕ → Inode → ℕ → Result ℕ Errno → Type 0
WritesBy line old new number inode count (Ok answer) =
    (line ≡ Ok (view (machine_of new))) × (answer ≡ count) × LeavesFiles old new number inode
WritesBy line old new number inode count (Err errno) = (line ≡ Err errno) × (new ≡ old)

-- Bytes were written to a file from a place on as the definitions say, and how many they are is answered.
abbrev pub Writes : Kernel → Kernel → ℕ → Inode → ℕ → List ℕ → Result ℕ Errno → Type 0
Writes old new number inode place written =
    WritesBy (with_bytes_written (view (machine_of old)) number (stored (machine_of old) inode) place written) old new number inode
    (length (part_within place written))

-- The same for a part that ends within the greatest length.
abbrev pub WritesPart : Kernel → Kernel → ℕ → Inode → ℕ → List ℕ → Result ℕ Errno → Type 0
WritesPart old new number inode place part =
    WritesBy (with_part_written (view (machine_of old)) number (stored (machine_of old) inode) place part) old new number inode (length part)
