-- The least number of which a test holds.
use Rattle.std.proofs.Common.{◌≡◌, ◌≢◌, ℕ, zero, suc, ◌+◌, ◌<◌, ◌≤◌, Bool, true, Some, None, ap, subst, ◌∙◌, ⊎_elim, arith, if◌then◌else◌}
use Rattle.std.proofs.lemmas.Bool.{cases_eq}
use Rattle.unix_model.specs.Tables.{least_below, option_or}
use Rattle.unix_model.proofs.TableLaws.{least_below-step}

-- it stays the least below any higher limit
pub least_stays : (test : ℕ → Bool) (n k limit : ℕ) → n ≤ limit → least_below test n ≡ Some k → least_below test limit ≡ Some k
unfolding least_below
least_stays test n k zero low e = subst (λ m. least_below test m ≡ Some k) (let same : n ≡ 0 = omega arith in same) e
least_stays test n k (suc limit) low e = ⊎_elim
    (λ (t : n ≡ suc limit). subst (λ m. least_below test m ≡ Some k) t e)
    (λ (t : n ≢ suc limit).
    ap (λ o. option_or o (if test limit then Some limit else None)) (least_stays test n k limit (omega arith) e))
    (cases_eq n (suc limit))

-- where it holds of no lower number, but of this one
pub least_found : (test : ℕ → Bool) (n limit : ℕ) → least_below test n ≡ None → test n ≡ true → n < limit → least_below test limit ≡ Some n
least_found test n limit none here below =
    let next : least_below test (n + 1) ≡ Some n =
    least_below-step test n ∙ ap (λ o. option_or o (if test n then Some n else None)) none ∙ ap (λ b. if b then Some n else None) here
    in
    least_stays test (n + 1) n limit (omega arith) next
