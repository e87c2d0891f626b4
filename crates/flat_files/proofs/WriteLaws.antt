-- Bytes written into others.
use Rattle.std.proofs.Common.{◌≡◌, ℕ, ◌+◌, List, length, arith, length-append, length-drop, length-take, max}
use Rattle.std.proofs.lemmas.List.{length-replicate}
use Rattle.unix_model.specs.FileCalls.{overwritten}

-- how long it is
pub overwritten-length : (bytes part : List ℕ) (place : ℕ) → length (overwritten bytes place part) ≡ max (place + length part) (length bytes)
unfolding overwritten
overwritten-length bytes part place = simp (length-append, length-take, length-drop, length-replicate) (omega arith)

pub ruleset writes = (overwritten-length)
