-- The bytes of a label.
use Rattle.std.proofs.Common.{◌≡◌, ◌+◌, ◌^◌, ◌<◌, ℕ, List, [], ◌++◌, take, drop, length, refl, arith}
use Rattle.std.proofs.lemmas.List.{append-nil}
use Rattle.std.specs.Int.{from_le_bytes, w32}
use Rattle.std.proofs.lemmas.Nat.{from_le_bytes-to_le_bytes_4}
use Rattle.byteorder.specs.Endian.{little_bytes}

pub word-read : (n : ℕ) → n < 2 ^ 32 → from_le_bytes w32 (little_bytes 4 n) ≡ n
word-read n h = from_le_bytes-to_le_bytes_4 n h

pub ruleset labels = (word-read, append-nil)
