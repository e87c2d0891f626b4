-- The machine at its start. Inode 0 is the console and inode 1 the root directory. Each entry in order gets the least free
-- inode and the next place of its directory. Then `/init` is loaded in slot 0 as process 1, with the string `/init` as its
-- one argument, and descriptors 0 to 2 that share one description of the console.
use Rattle.std.specs.Prelude.{ℕ, ◌+◌, ◌-◌, Bool, true, false, not, List, [], ◌∷◌, ◌++◌, length, replicate, slice_index, Option, Some, None, is_some, codes, Result, Ok, Err, ◌==◌, nat_lt, if◌then◌else◌}
use Rattle.unix_model.specs.declared.calls.Errno.{Errno}
use Rattle.unix_model.specs.declared.calls.Errno.TheVariants.{Eexist}
use Rattle.unix_model.specs.declared.elf.ElfFault.{ElfFault}
use Rattle.unix_model.specs.Elf.{LoadPlan, plan_of}
use Rattle.unix_model.specs.Files.{Inode, File, Directory, Console, Description, console_inode, root_inode, with_description}
use Rattle.unix_model.specs.Limits.{descriptor_count, most_file_bytes}
use Rattle.unix_model.specs.Loading.{image, start_registers}
use Rattle.unix_model.specs.NameCalls.{made, with_made}
use Rattle.unix_model.specs.Paths.{Spot, walked, file_at}
use Rattle.unix_model.specs.Process.{Process, Run}
use Rattle.unix_model.specs.Refusals.{◌>>=◌, ◌>>◌, refuse◌when◌}
use Rattle.unix_model.specs.Room.{has_room}
use Rattle.unix_model.specs.State.{Unix, with_process}
use Rattle.unix_model.specs.Tables.{with_at, nothing}

-- the console and the empty root, which is its own parent
unfoldable pub first_inodes : ℕ → Option Inode
first_inodes = with_at (with_at nothing console_inode (Some Console)) root_inode (Some (Directory root_inode []))

-- the machine of P pages and the quantum Q before anything is stored
unfoldable pub empty_machine : ℕ → ℕ → Unix
empty_machine pages quantum =
    record {
      processes = nothing;
      files = record { inodes = first_inodes; descriptions = nothing };
      next_pid = 1;
      pages = pages;
      quantum = quantum;
      position = 0;
    }

-- ---- the entries

-- what an entry makes
pub data Node : Type 0 where
  NewDirectory : Node
  NewFile : (bytes : List ℕ) → Node

pub record BootEntry : Type 0 where
  pub path : List ℕ
  pub node : Node

-- its inode, in this directory
abbrev pub node_inode : ℕ → Node → Inode
node_inode directory NewDirectory = Directory directory []
node_inode directory (NewFile bytes) = File bytes

-- a file that is too long
abbrev pub is_too_long : Node → Bool
is_too_long NewDirectory = false
is_too_long (NewFile bytes) = nat_lt most_file_bytes (length bytes)

-- why a list of entries isn't booted
pub data BootRefusal : Type 0 where
  -- for the entry of this number, from 0, there is no inode, no place or no room, it is a file that is too long, or its
  -- path isn't a new one in a directory that is there
  NoRoomFor : (entry : ℕ) → BootRefusal
  -- there is no file `/init`
  NoProgram : BootRefusal
  -- `/init` isn't a program that can be loaded
  BadProgram : ElfFault → BootRefusal
  -- there is no room for the program's memory
  NoRoomToStart : BootRefusal

-- a test of boot: where it doesn't hold, it is refused
infix 5 stop◌where_not◌
abbrev pub stop◌where_not◌ : BootRefusal → Bool → Result (Unit {0}) BootRefusal
stop refusal where_not test = if test then Ok tt else Err refusal

-- the state with an entry more at a spot, where nothing stands yet
abbrev pub with_entry_at : Unix → Spot → Node → Result Unix Errno
with_entry_at unix spot node = do
  refuse Eexist when is_some spot.inode
  inode ← made unix spot (node_inode spot.directory node)
  Ok (with_made unix spot inode (node_inode spot.directory node))

-- the state with an entry more
unfoldable pub with_boot_entry : Unix → BootEntry → Result Unix Errno
with_boot_entry unix entry = do
  spot ← walked unix.files entry.path
  with_entry_at unix spot entry.node

-- where it is refused, the entry's number says so
abbrev pub or_no_room : ℕ → Result Unix Errno → Result Unix BootRefusal
or_no_room number (Ok unix) = Ok unix
or_no_room number (Err errno) = Err (NoRoomFor number)

-- the state with these entries, the first of which has this number
unfoldable pub with_boot_entries : ℕ → Unix → List BootEntry → Result Unix BootRefusal
with_boot_entries number unix [] = Ok unix
with_boot_entries number unix (entry ∷ entries) = do
  stop (NoRoomFor number) where_not not (is_too_long entry.node)
  next ← or_no_room number (with_boot_entry unix entry)
  with_boot_entries (number + 1) next entries

-- ---- the first process

-- the console, open for reading and writing
abbrev pub console_description : Description
console_description = record { inode = console_inode; readable = true; writable = true; append = false; offset = 0 }

-- the first program's path, which is also its one argument
abbrev pub init_path : List ℕ
init_path = codes "/init"

abbrev pub init_arguments : List (List ℕ)
init_arguments = init_path ∷ []

-- process 1 as it is loaded from a file with its plan
unfoldable pub first_process : List ℕ → LoadPlan → Process
first_process file plan =
    record {
      pid = 1;
      parent = 0;
      registers = start_registers plan.entry init_arguments;
      memory = image file plan.loads init_arguments;
      break_start = plan.break_start;
      break_end = plan.break_start;
      descriptors = replicate 3 (Some 0) ++ replicate (descriptor_count - 3) None;
      phase = Run;
    }

-- the machine with its first process in slot 0, the console open as description 0, and 2 as the next process id
abbrev pub with_first_process : Unix → Process → Unix
with_first_process unix process =
    with_process (record unix { files = with_description unix.files 0 console_description; next_pid = 2 }) 0 process

-- the machine with process 1 in slot 0
abbrev pub started : Unix → List ℕ → LoadPlan → Unix
started unix file plan = with_first_process unix (first_process file plan)

-- ---- boot

-- the program, or why it isn't one
abbrev pub or_no_program : Option (List ℕ) → Result (List ℕ) BootRefusal
or_no_program None = Err NoProgram
or_no_program (Some file) = Ok file

abbrev pub or_bad_program : Result LoadPlan ElfFault → Result LoadPlan BootRefusal
or_bad_program (Ok plan) = Ok plan
or_bad_program (Err fault) = Err (BadProgram fault)

-- `/init` is loaded
unfoldable pub with_init : Unix → Result Unix BootRefusal
with_init unix = do
  file ← or_no_program (file_at unix.files init_path)
  plan ← or_bad_program (plan_of file)
  stop NoRoomToStart where_not has_room (started unix file plan)
  Ok (started unix file plan)

-- Boot of a list of entries with the pages P and the quantum Q
unfoldable pub booted : (pages quantum : ℕ) → List BootEntry → Result Unix BootRefusal
booted pages quantum entries = do
  unix ← with_boot_entries 0 (empty_machine pages quantum) entries
  with_init unix

-- an ELF file begins with 7F; no other input can be booted yet
abbrev pub is_elf : List ℕ → Bool
is_elf input = slice_index input 0 == 0x7F

-- the one entry that an ELF file stands for
abbrev pub init_entry : (file : List ℕ) → BootEntry
init_entry file = record { path = init_path; node = NewFile file }

-- Boot of one ELF file: of the entry `/init`
unfoldable pub booted_file : (pages quantum : ℕ) → (file : List ℕ) → Result Unix BootRefusal
booted_file pages quantum file = booted pages quantum (init_entry file ∷ [])
