-- Where the line of brk ends.
use Rattle.std.proofs.Common.{◌≡◌, ℕ, ◌+◌, ◌<◌, Option, Some, Err, true, false, arith, refl, ap, ◌∙◌}
use Rattle.std.proofs.lemmas.Bool.Decides.{nat_tests}
use Rattle.std.specs.Prelude.{nat_lt, ◌==◌}
use Rattle.unix_model.specs.declared.calls.Errno.TheVariants.{Enomem}
use Rattle.unix_model.specs.Enter.{answers, brk_enters, with_moved_break}
use Rattle.unix_model.specs.Limits.{loads_end}
use Rattle.unix_model.specs.Memory.{mapped_pages}
use Rattle.unix_model.specs.Process.{Process, Asked}
use Rattle.unix_model.specs.Room.{has_room, live_pages, process_pages, promised}
use Rattle.unix_model.specs.State.{Unix, with_process}
use Rattle.unix_model.specs.Tables.{at, with_at}
use Rattle.unix_model.proofs.RoomLaws.{slots-have}
use Rattle.unix_model.proofs.TableLaws.{at-with_at}

pub brk-crowded : (unix : Unix) (slot address : ℕ) (process : Process) → address == 0 ≡ false → nat_lt address process.break_start ≡ false → nat_lt loads_end address ≡ false
    → has_room (with_process unix slot (with_moved_break process address)) ≡ false → brk_enters unix slot process address ≡ Err Enomem
brk-crowded unix slot address process some above below crowded = rw (some, above, below, crowded) refl

pub brk-done : (unix : Unix) (slot address : ℕ) (process : Process) → address == 0 ≡ false → nat_lt address process.break_start ≡ false → nat_lt loads_end address ≡ false
    → has_room (with_process unix slot (with_moved_break process address)) ≡ true → brk_enters unix slot process address ≡ answers (with_moved_break process address) address
brk-done unix slot address process some above below room = rw (some, above, below, room) refl

-- a memory that alone has more pages than there are
pub moved-crowded : (unix : Unix) (slot : ℕ) (moved : Process) → slot < 64 → moved.phase ≡ Asked → unix.pages < mapped_pages moved.memory → has_room (with_process unix slot moved) ≡ false
unfolding promised
moved-crowded unix slot moved inside asked many =
    let Table : Type 0 = ℕ → Option Process in
    let after : Table = with_at unix.processes slot (Some moved) in
    let here : process_pages (at after slot) ≡ mapped_pages moved.memory + 1 = ap process_pages (at-with_at unix.processes slot (Some moved)) ∙ ap (live_pages moved) asked in
    grind (arith, nat_tests, slots-have after slot inside, here)
