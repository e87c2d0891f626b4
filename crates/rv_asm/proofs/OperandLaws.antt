-- Hexadecimal digits, one after the other.
use Rattle.std.proofs.Common.{◌≡◌, ℕ, ◌+◌, ◌*◌, ◌<◌, min, List, length, drop, get_or, Some, sym, ap, ◌∙◌, arith}
use Rattle.std.proofs.lemmas.List.{at_drop_more}
use Rattle.rv_asm.specs.Operands.{cut, hex_after, hex_digit, hex_step}

-- one digit more
pub hex_after-digit : (digits : List ℕ) (place whole digit : ℕ) → place < length digits → Some digit ≡ hex_digit (get_or digits place 0) → hex_after (Some whole) (drop place digits) ≡ hex_after (Some (16 * whole + digit)) (drop (place + 1) digits)
hex_after-digit digits place whole digit inside is =
    at_drop_more (hex_after (Some whole)) digits place 0 inside ∙ ap (λ value. hex_after (hex_step whole value) (drop (place + 1) digits)) (sym is)

-- what was cut stays cut
pub cut-digit : (whole digit number : ℕ) → number ≡ cut whole → min (16 * number + digit) 4294967296 ≡ cut (16 * whole + digit)
cut-digit whole digit number is = omega arith
