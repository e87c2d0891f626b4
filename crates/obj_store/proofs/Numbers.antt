-- The bytes of a number, where it is known that they spell a key.
use Rattle.std.proofs.Common.{◌≡◌, ℕ, Some, None, true, false, List, drop, get_or, refl, sym, ap, ◌∙◌, ⊎_elim}
use Rattle.std.specs.Prelude.{IsSome}
use Rattle.std.specs.Str.{bytes_eq}
use Rattle.std.proofs.lemmas.Bool.{cases_Bool}
use Rattle.kn_base.specs.declared.key.Key.TheVariants.{Number}
use Rattle.kn_base.specs.Keys.{spelling, spelled_key, keys_by_kind}

pub number_spelled : (bytes : List ℕ) → get_or bytes 0 0 ≡ 1 → IsSome (spelled_key bytes) → spelled_key bytes ≡ Some (Number (drop 4 bytes))
unfolding spelled_key keys_by_kind
number_spelled bytes kind some = ⊎_elim
    (λ (t : bytes_eq (spelling (Number (drop 4 bytes))) bytes ≡ true). rw (kind, t) refl)
    (λ (t : bytes_eq (spelling (Number (drop 4 bytes))) bytes ≡ false). let no : false ≡ true = rw (kind, t) at some in cc)
    (cases_Bool (bytes_eq (spelling (Number (drop 4 bytes))) bytes))
