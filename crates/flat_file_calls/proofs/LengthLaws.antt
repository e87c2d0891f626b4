-- How long files are after a change.
use Rattle.std.proofs.Common.{◌≡◌, ℕ, ◌+◌, List, length, arith, length-append, length-drop, length-take, max}
use Rattle.std.proofs.lemmas.List.{length-replicate}
use Rattle.unix_model.specs.FileCalls.{overwritten, resized}

pub overwritten-length : (bytes part : List ℕ) (place : ℕ) → length (overwritten bytes place part) ≡ max (place + length part) (length bytes)
unfolding overwritten
overwritten-length bytes part place = simp (length-append, length-take, length-drop, length-replicate) (omega arith)

pub resized-length : (bytes : List ℕ) (size : ℕ) → length (resized bytes size) ≡ size
unfolding resized
resized-length bytes size = simp (length-append, length-take, length-replicate) (omega arith)
