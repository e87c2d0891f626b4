-- Where the line of exec ends.
use Rattle.std.proofs.Common.{◌≡◌, ℕ, ◌+◌, ◌<◌, true, false, List, Option, Some, None, Result, Ok, Err, arith, refl, ap, ◌∙◌}
use Rattle.std.proofs.lemmas.Bool.Decides.{nat_tests}
use Rattle.unix_model.specs.declared.calls.Errno.{Errno}
use Rattle.unix_model.specs.declared.calls.Errno.TheVariants.{Eacces, Enoent, Enomem}
use Rattle.unix_model.specs.Effect.{Line, Goes}
use Rattle.unix_model.specs.Elf.{LoadPlan, plan_of}
use Rattle.unix_model.specs.Files.{Files, file_bytes}
use Rattle.unix_model.specs.Loading.{image}
use Rattle.unix_model.specs.Memory.{mapped_pages}
use Rattle.unix_model.specs.Paths.{Spot, walked}
use Rattle.unix_model.specs.Process.{Process}
use Rattle.unix_model.specs.ProcessCalls.{exec_line, program, with_loaded, with_program}
use Rattle.unix_model.specs.Refusals.{◌>>=◌, ◌>>◌, refuse◌unless◌, refuse◌where_not◌}
use Rattle.unix_model.specs.Room.{has_room, promised, process_pages}
use Rattle.unix_model.specs.State.{Unix, with_process}
use Rattle.unix_model.specs.Tables.{at, with_at}
use Rattle.unix_model.proofs.RoomLaws.{promised-process, slots-have}
use Rattle.unix_model.proofs.TableLaws.{at-with_at}
use Rattle.flat_process_calls.specs.Programs.{PlannedFile, program_at}

-- the rest of the line, once there is a program
abbrev pub runs : Unix → ℕ → Process → (strings : List (List ℕ)) → PlannedFile → Line
runs unix slot process strings file = do
  refuse Enomem where_not has_room (with_loaded unix slot process file.bytes file.plan strings)
  Ok (Goes (with_loaded unix slot process file.bytes file.plan strings))

-- the line and the search for the program, from the file, from the inode and from the walk on
abbrev run_file : Unix → ℕ → Process → (strings : List (List ℕ)) → (file : List ℕ) → Result LoadPlan Errno → Line
run_file unix slot process strings file plan =
    plan >>= (λ plan. (refuse Enomem where_not has_room (with_loaded unix slot process file plan strings)) >> Ok (Goes (with_loaded unix slot process file plan strings)))

abbrev plan_file : (file : List ℕ) → Result LoadPlan Errno → Result PlannedFile Errno
plan_file file plan = plan >>= (λ plan. Ok (record { bytes = file; plan = plan }))

abbrev run_found : Unix → ℕ → Process → (strings : List (List ℕ)) → Option (List ℕ) → Line
run_found unix slot process strings found = (refuse Eacces unless found) >>= (λ file. run_file unix slot process strings file (program (plan_of file)))

abbrev plan_found : Option (List ℕ) → Result PlannedFile Errno
plan_found found = (refuse Eacces unless found) >>= (λ file. plan_file file (program (plan_of file)))

abbrev run_inode : Unix → ℕ → Process → (strings : List (List ℕ)) → Option ℕ → Line
run_inode unix slot process strings inode = (refuse Enoent unless inode) >>= (λ inode. run_found unix slot process strings (file_bytes (at unix.files.inodes inode)))

abbrev plan_inode : Files → Option ℕ → Result PlannedFile Errno
plan_inode files inode = (refuse Enoent unless inode) >>= (λ inode. plan_found (file_bytes (at files.inodes inode)))

by_plan : (unix : Unix) (slot : ℕ) (process : Process) (strings : List (List ℕ)) (file : List ℕ) (plan : Result LoadPlan Errno)
    → run_file unix slot process strings file plan ≡ (plan_file file plan >>= runs unix slot process strings)
by_plan unix slot process strings file (Ok plan) = refl
by_plan unix slot process strings file (Err errno) = refl

by_found : (unix : Unix) (slot : ℕ) (process : Process) (strings : List (List ℕ)) (found : Option (List ℕ))
    → run_found unix slot process strings found ≡ (plan_found found >>= runs unix slot process strings)
by_found unix slot process strings None = refl
by_found unix slot process strings (Some file) = by_plan unix slot process strings file (program (plan_of file))

by_inode : (unix : Unix) (slot : ℕ) (process : Process) (strings : List (List ℕ)) (inode : Option ℕ)
    → run_inode unix slot process strings inode ≡ (plan_inode unix.files inode >>= runs unix slot process strings)
by_inode unix slot process strings None = refl
by_inode unix slot process strings (Some inode) = by_found unix slot process strings (file_bytes (at unix.files.inodes inode))

by_spot : (unix : Unix) (slot : ℕ) (process : Process) (strings : List (List ℕ)) (spot : Result Spot Errno)
    → (spot >>= (λ s. run_inode unix slot process strings s.inode)) ≡ ((spot >>= (λ s. plan_inode unix.files s.inode)) >>= runs unix slot process strings)
by_spot unix slot process strings (Ok spot) = by_inode unix slot process strings spot.inode
by_spot unix slot process strings (Err errno) = refl

exec-is : (unix : Unix) (slot : ℕ) (process : Process) (path : List ℕ) (strings : List (List ℕ))
    → exec_line unix slot process path strings ≡ (program_at unix.files path >>= runs unix slot process strings)
unfolding program_at
exec-is unix slot process path strings = by_spot unix slot process strings (walked unix.files path)

pub exec-refused : (unix : Unix) (slot : ℕ) (process : Process) (path : List ℕ) (strings : List (List ℕ)) (errno : Errno)
    → program_at unix.files path ≡ Err errno → exec_line unix slot process path strings ≡ Err errno
exec-refused unix slot process path strings errno none = exec-is unix slot process path strings ∙ ap (λ found. found >>= runs unix slot process strings) none

pub exec-crowded : (unix : Unix) (slot : ℕ) (process : Process) (path : List ℕ) (strings : List (List ℕ)) (file : PlannedFile)
    → program_at unix.files path ≡ Ok file → has_room (with_loaded unix slot process file.bytes file.plan strings) ≡ false
    → exec_line unix slot process path strings ≡ Err Enomem
exec-crowded unix slot process path strings file there crowded =
    exec-is unix slot process path strings ∙ (ap (λ found. found >>= runs unix slot process strings) there ∙ rw crowded refl)

pub exec-done : (unix : Unix) (slot : ℕ) (process : Process) (path : List ℕ) (strings : List (List ℕ)) (file : PlannedFile)
    → program_at unix.files path ≡ Ok file → has_room (with_loaded unix slot process file.bytes file.plan strings) ≡ true
    → exec_line unix slot process path strings ≡ Ok (Goes (with_loaded unix slot process file.bytes file.plan strings))
exec-done unix slot process path strings file there room =
    exec-is unix slot process path strings ∙ (ap (λ found. found >>= runs unix slot process strings) there ∙ rw room refl)

-- ---- room

program-pages : (process : Process) (file : List ℕ) (plan : LoadPlan) (strings : List (List ℕ))
    → process_pages (Some (with_program process file plan strings)) ≡ mapped_pages (image file plan.loads strings) + 1
unfolding with_program
program-pages process file plan strings = refl

-- a program alone has more pages than there are
pub loaded-crowded : (unix : Unix) (slot : ℕ) (process : Process) (file : List ℕ) (plan : LoadPlan) (strings : List (List ℕ)) → slot < 64
    → unix.pages < mapped_pages (image file plan.loads strings) → has_room (with_loaded unix slot process file plan strings) ≡ false
unfolding promised
loaded-crowded unix slot process file plan strings inside many =
    let Table : Type 0 = ℕ → Option Process in
    let after : Table = with_at unix.processes slot (Some (with_program process file plan strings)) in
    let here : process_pages (at after slot) ≡ mapped_pages (image file plan.loads strings) + 1 =
    ap process_pages (at-with_at unix.processes slot (Some (with_program process file plan strings))) ∙ program-pages process file plan strings in
    grind (arith, nat_tests, slots-have after slot inside, here)

-- what a program promises in place of what the process was
pub promised-loaded : (unix : Unix) (slot : ℕ) (process : Process) (file : List ℕ) (plan : LoadPlan) (strings : List (List ℕ)) → slot < 64
    → promised (with_loaded (with_process unix slot process) slot process file plan strings) + process_pages (Some process)
    ≡ promised (with_process unix slot process) + (mapped_pages (image file plan.loads strings) + 1)
promised-loaded unix slot process file plan strings inside =
    omega (
      arith,
      promised-process (with_process unix slot process) slot (Some (with_program process file plan strings)) inside,
      ap process_pages (at-with_at unix.processes slot (Some process)),
      program-pages process file plan strings,
    )
