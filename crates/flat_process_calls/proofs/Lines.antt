-- Where the lines of calls on processes end, by their tests.
use Rattle.std.proofs.Common.{◌≡◌, ℕ, ◌^◌, Bool, true, false, Option, Some, None, Err, refl, ap, sym}
use Rattle.std.specs.Prelude.{nat_le, if◌then◌else◌}
use Rattle.unix_model.specs.declared.calls.Errno.TheVariants.{Eagain, Echild, Enomem}
use Rattle.unix_model.specs.Effect.{replies}
use Rattle.unix_model.specs.Process.{Process, Exiting, answered, in_phase}
use Rattle.unix_model.specs.ProcessCalls.{EndedChild, fork_line, forked, is_ending, is_waited, least_ended, waitpid_line, waits_for, with_killed}
use Rattle.unix_model.specs.Room.{has_room}
use Rattle.unix_model.specs.State.{Unix, free_slot, with_phase, with_process}
use Rattle.unix_model.specs.Tables.{at, any_below}
use Rattle.unix_model.proofs.TableLaws.{with_at-over, with_at-twice}

pub fork-full : (unix : Unix) (slot : ℕ) (process : Process) → free_slot unix.processes ≡ None → fork_line unix slot process ≡ Err Eagain
fork-full unix slot process full = rw full refl

pub fork-crowded : (unix : Unix) (slot place : ℕ) (process : Process) → free_slot unix.processes ≡ Some place → nat_le (2 ^ 31) unix.next_pid ≡ false
    → has_room (forked unix place process) ≡ false → fork_line unix slot process ≡ Err Enomem
fork-crowded unix slot place process free pid crowded = rw (free, pid, crowded) refl

pub fork-done : (unix : Unix) (slot place : ℕ) (process : Process) → free_slot unix.processes ≡ Some place → nat_le (2 ^ 31) unix.next_pid ≡ false
    → has_room (forked unix place process) ≡ true → fork_line unix slot process ≡ replies (forked unix place process) slot process unix.next_pid
fork-done unix slot place process free pid room = rw (free, pid, room) refl

pub wait-none : (unix : Unix) (slot wanted address options : ℕ) (process : Process)
    → any_below (λ n. is_waited process.pid wanted (at unix.processes n)) 64 ≡ false
    → waitpid_line unix slot process wanted address options ≡ Err Echild
wait-none unix slot wanted address options process none = rw none refl

pub wait-some : (unix : Unix) (slot wanted address options : ℕ) (process : Process) (ended : Option EndedChild)
    → any_below (λ n. is_waited process.pid wanted (at unix.processes n)) 64 ≡ true
    → least_ended unix.processes process.pid wanted 64 ≡ ended
    → waitpid_line unix slot process wanted address options ≡ waits_for unix slot process address options ended
wait-some unix slot wanted address options process ended some least = rw (some, least) refl

-- a signal is sent while the sender is out
killed_in : (unix : Unix) (slot target signal : ℕ) (process got : Process) (ending : Bool)
    → with_phase (if ending then unix else with_phase unix target got (Exiting signal)) slot process (answered 0)
    ≡ with_phase (if ending then with_process unix slot process else with_phase (with_process unix slot process) target got (Exiting signal)) slot process (answered 0)
killed_in unix slot target signal process got true =
    ap (λ table. record unix { processes = table }) (sym (with_at-twice unix.processes slot (Some process) (Some (in_phase process (answered 0)))))
killed_in unix slot target signal process got false =
    ap (λ table. record unix { processes = table }) (sym (with_at-over unix.processes slot target (Some process) (Some (in_phase got (Exiting signal))) (Some (in_phase process (answered 0)))))

pub killed-out : (unix : Unix) (slot target signal : ℕ) (process : Process) (found : Option Process)
    → with_phase (with_killed unix target signal found) slot process (answered 0) ≡ with_phase (with_killed (with_process unix slot process) target signal found) slot process (answered 0)
killed-out unix slot target signal process None =
    ap (λ table. record unix { processes = table }) (sym (with_at-twice unix.processes slot (Some process) (Some (in_phase process (answered 0)))))
killed-out unix slot target signal process (Some got) = killed_in unix slot target signal process got (is_ending got.phase)
