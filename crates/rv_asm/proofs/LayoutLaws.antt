-- How many bytes statements add.
use Rattle.std.proofs.Common.{ℕ, ◌-◌, ◌%◌, ◌^◌, ◌≤◌, ◌<◌, arith}
use Rattle.std.proofs.Math.Nat.{mod-lt}
use Rattle.std.proofs.Math.Pow.{pow_mono}
use Rattle.std.proofs.lemmas.Nat.{pow_pos}
use Rattle.rv_asm.specs.Layout.{padding}

pub few_zeros : (exponent bytes : ℕ) → exponent ≤ 12 → padding exponent bytes ≤ 4096
few_zeros exponent bytes small =
    let below : padding exponent bytes < 2 ^ exponent = mod-lt (2 ^ exponent - bytes % 2 ^ exponent) (pow_pos exponent) in
    let most : 2 ^ exponent ≤ 2 ^ 12 = pow_mono small in
    omega (arith, below, most)
