-- A position of a round, divided by the turns of a slot.
use Rattle.std.proofs.Common.{ℕ, ◌<◌, ◌*◌, ◌/◌, arith}
use Rattle.std.proofs.Math.Nat.{div-lt_iff_lt-mul}

-- turns are given, where a position is inside of a round
pub turns-given : (position quantum : ℕ) → position < 64 * quantum → 0 < quantum
turns-given position quantum inside = omega (arith, inside)

-- the slot is one of 64
pub slot-inside : (position quantum : ℕ) → position < 64 * quantum → position / quantum < 64
slot-inside position quantum inside = (div-lt_iff_lt-mul {k = quantum} {x = position} {y = 64} (turns-given position quantum inside)).1 inside
