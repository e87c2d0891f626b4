-- The program that exec runs, and what loading it comes to.
use Rattle.std.specs.Prelude.{◌≡◌, ℕ, ◌<◌, List, Result, Ok, Err}
use Rattle.unix_model.specs.declared.calls.Errno.{Errno}
use Rattle.unix_model.specs.declared.calls.Errno.TheVariants.{Eacces, Enoent}
use Rattle.unix_model.specs.Elf.{LoadPlan, plan_of}
use Rattle.unix_model.specs.Files.{Files, file_bytes}
use Rattle.unix_model.specs.Loading.{image, start_registers}
use Rattle.unix_model.specs.Memory.{mapped_pages}
use Rattle.unix_model.specs.Paths.{walked}
use Rattle.unix_model.specs.ProcessCalls.{program}
use Rattle.unix_model.specs.Refusals.{◌>>=◌, refuse◌unless◌}
use Rattle.unix_model.specs.Tables.{at}
use Rattle.elf_read.specs.Shown.{shown_plan}
use Rattle.flat_memory.specs.MemoryView.{memory_of}
use Rattle.flat_process_calls.specs.declared.programs.FoundProgram.{FoundProgram}
use Rattle.flat_process_calls.specs.declared.programs.Loading.{Loading}
use Rattle.flat_process_calls.specs.declared.programs.Loading.TheVariants.{Refused, Crowded, Loaded}

-- a file with its plan
pub record PlannedFile : Type 0 where
  pub bytes : List ℕ
  pub plan : LoadPlan

-- the program at a path, or why there is none
unfoldable pub program_at : Files → List ℕ → Result PlannedFile Errno
program_at files path = do
  spot ← walked files path
  inode ← refuse Enoent unless spot.inode
  file ← refuse Eacces unless file_bytes (at files.inodes inode)
  plan ← program (plan_of file)
  Ok (record { bytes = file; plan = plan })

abbrev pub planned_of : FoundProgram → PlannedFile
planned_of found = record { bytes = found.file.now; plan = shown_plan found.plan }

abbrev pub planned : Result FoundProgram Errno → Result PlannedFile Errno
planned (Ok found) = Ok (planned_of found)
planned (Err errno) = Err errno

-- what loading the program at a path with these strings comes to, within so many pages
abbrev pub IsLoading : Files → (path : List ℕ) → (strings : List (List ℕ)) → (limit : ℕ) → Loading → Type 0
IsLoading files path strings limit (Refused errno) = program_at files path ≡ Err errno
IsLoading files path strings limit Crowded =
    (file : PlannedFile) × (program_at files path ≡ Ok file) × (limit < mapped_pages (image file.bytes file.plan.loads strings))
IsLoading files path strings limit (Loaded loaded) =
    (file : PlannedFile) × (program_at files path ≡ Ok file) × (loaded.program.registers ≡ start_registers file.plan.entry strings)
    × (memory_of loaded.program.memory ≡ image file.bytes file.plan.loads strings) × (loaded.break_start ≡ file.plan.break_start)
