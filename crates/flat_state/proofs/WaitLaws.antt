-- Children that have ended, one slot more at a time.
use Rattle.std.proofs.Common.{◌≡◌, ℕ, ◌+◌, Option, None, refl, add-one}
use Rattle.std.specs.Prelude.{if◌then◌else◌}
use Rattle.unix_model.specs.Process.{Process}
use Rattle.unix_model.specs.ProcessCalls.{ended_in, is_waited, least_ended, lesser_pid}
use Rattle.unix_model.specs.Tables.{at}

pub least_ended-zero : (processes : ℕ → Option Process) (parent wanted : ℕ) → least_ended processes parent wanted 0 ≡ None
unfolding least_ended
least_ended-zero processes parent wanted = refl

pub least_ended-step : (processes : ℕ → Option Process) (parent wanted slot : ℕ)
    → least_ended processes parent wanted (slot + 1) ≡ lesser_pid (least_ended processes parent wanted slot) (if is_waited parent wanted (at processes slot) then ended_in slot (at processes slot) else None)
unfolding least_ended
least_ended-step processes parent wanted slot = rw (add-one slot) refl

pub ruleset ended = (least_ended-zero, least_ended-step)
