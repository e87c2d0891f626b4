use Rattle.std.proofs.Common.{◌≡◌, ℕ, drop, Some}
use Rattle.rv_asm.specs.Operands.{cut, hex_after}
use Rattle.rv_asm.proofs.operands.hexadecimal.Given as goal

abbrev pub invariant-loop-byte : goal.invariant-loop-byte
invariant-loop-byte l =
    (whole : ℕ) × (l.number ≡ cut whole) × (hex_after (Some 0) l.digits ≡ hex_after (Some whole) (drop l.byte-index l.digits))
