-- Tests that the first so many numbers pass.
use Rattle.std.proofs.Common.{◌≡◌, ◌≢◌, ◌<◌, ◌+◌, ◌&&◌, ℕ, zero, suc, Bool, true, refl, ap, ◌∙◌, arith, ⊎_elim}
use Rattle.std.proofs.lemmas.Bool.{and_parts, and_from, cases_eq}
use Rattle.domain.specs.Tests.{all_pass}

-- no number yet, ..
pub pass_none : (test : ℕ → Bool) (n : ℕ) → n ≡ 0 → all_pass test n ≡ true
unfolding all_pass
pass_none test n e = ap (all_pass test) e

-- .. and one number more
pub pass_more : (test : ℕ → Bool) (n : ℕ) (so_far here result : Bool) → so_far ≡ all_pass test n → here ≡ test n → result ≡ (so_far && here) → result ≡ all_pass test (n + 1)
unfolding all_pass
pass_more test n so_far here result before now e =
    e ∙ ap (λ b. b && here) before ∙ ap (λ b. all_pass test n && b) now ∙ ap (all_pass test) (let same : suc n ≡ n + 1 = omega arith in same)

-- who passes
pub passed : (test : ℕ → Bool) (n k : ℕ) → all_pass test n ≡ true → k < n → test k ≡ true
unfolding all_pass
passed test zero k e low = absurd (omega arith)
passed test (suc n) k e low = ⊎_elim
    (λ (h : k ≡ n). ap test h ∙ (and_parts (all_pass test n) (test n) e).1)
    (λ (d : k ≢ n). passed test n k (and_parts (all_pass test n) (test n) e).0 (omega arith))
    (cases_eq k n)

pub all_passed : (test : ℕ → Bool) (n : ℕ) → ((k : ℕ) → k < n → test k ≡ true) → all_pass test n ≡ true
unfolding all_pass
all_passed test zero each = refl
all_passed test (suc n) each = and_from (all_pass test n) (test n) (all_passed test n (λ k low. each k (omega arith))) (each n (omega arith))
