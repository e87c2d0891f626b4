use Rattle.std.proofs.Common.{◌≡◌, ◌+◌, ◌^◌, ◌<◌, ℕ, List, [], ◌++◌, take, drop, length, refl, sym, ◌∙◌, ap, arith}
use Rattle.std.proofs.lemmas.List.{append-nil}
use Rattle.std.specs.Int.{from_le_bytes, w32, w64}
use Rattle.std.proofs.lemmas.Nat.{from_le_bytes-to_le_bytes_4, from_le_bytes-to_le_bytes_8}
use Rattle.byteorder.specs.Endian.{little_bytes, little_number}

pub word-read : (n : ℕ) → n < 2 ^ 32 → from_le_bytes w32 (little_bytes 4 n) ≡ n
word-read n h = from_le_bytes-to_le_bytes_4 n h

pub long-read : (n : ℕ) → n < 2 ^ 64 → from_le_bytes w64 (little_bytes 8 n) ≡ n
long-read n h = from_le_bytes-to_le_bytes_8 n h

pub word-number : (bs : List ℕ) → little_number 4 bs ≡ from_le_bytes w32 bs
word-number bs = omega arith

pub ruleset numbers = (word-number, word-read, long-read, append-nil)
