use Rattle.std.proofs.Common.{◌≡◌, ℕ, ◌^◌, drop, min}
use Rattle.unix_model.specs.Texts.{digits_after}
use Rattle.kn_text.proofs.numbers.digits.Given as goal

abbrev pub invariant-loop-byte : goal.invariant-loop-byte
invariant-loop-byte l = (whole : ℕ) × (l.number ≡ min whole (2 ^ 64)) × (digits_after 0 l.text ≡ digits_after whole (drop l.byte-index l.text))
