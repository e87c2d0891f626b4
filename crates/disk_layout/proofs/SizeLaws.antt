-- The sizes of an area, and where it lies.
use Rattle.std.proofs.Common.{◌≡◌, ◌⊎◌, inl, inr, ⊎_elim, ◌≢◌, ℕ, ◌+◌, ◌*◌, ◌%◌, ◌≤◌, refl, arith}
use Rattle.std.proofs.lemmas.Bool.{cases_eq}
use Rattle.disk_layout.specs.Sizes.{area_size, contents_from, area_start, home_start}

pub contents_behind : (blocks : ℕ) → 4096 + 4 * blocks ≤ contents_from blocks
unfolding contents_from
contents_behind blocks = omega arith

pub size_is : (blocks : ℕ) → area_size blocks ≡ contents_from blocks + 4096 * blocks
unfolding area_size
size_is blocks = refl

pub size_above : (blocks : ℕ) → 4096 ≤ area_size blocks
unfolding area_size contents_from
size_above blocks = omega arith

pub ruleset sizes = (contents_behind, size_is, size_above)

pub halves : (g : ℕ) → (g % 2 ≡ 0) ⊎ (g % 2 ≡ 1)
halves g = ⊎_elim (λ (even : g % 2 ≡ 0). inl even) (λ (other : g % 2 ≢ 0). inr (omega arith)) (cases_eq (g % 2) 0)

pub place_fits : (blocks g : ℕ) → area_start blocks (g % 2) + area_size blocks ≤ home_start blocks
place_fits blocks g =
    ⊎_elim (λ (even : g % 2 ≡ 0). rw even (omega arith)) (λ (odd : g % 2 ≡ 1). rw odd (omega arith)) (halves g)
