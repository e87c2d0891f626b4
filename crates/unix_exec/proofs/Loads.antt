-- A test that one of some loads passes, load by load.
use Rattle.std.proofs.Common.{◌≡◌, List, ℕ, ◌+◌, ◌<◌, [], ◌∷◌, length, take, get_or, Bool, sym}
use Rattle.std.proofs.Math.Bool.{or_assoc, or-false}
use Rattle.std.proofs.lemmas.List.{take_more}
use Rattle.std.proofs.lemmas.List.Folds.{list_any-append}
use Rattle.std.specs.List.{list_any}
use Rattle.std.specs.Prelude.{◌||◌}
use Rattle.unix_model.specs.declared.elf.Load.{Load}

pub any_load-step : (before : Bool) (test : Load → Bool) (loads : List Load) (i : ℕ) (d : Load) → i < length loads
    → (before || list_any test (take (i + 1) loads)) ≡ ((before || list_any test (take i loads)) || test (get_or loads i d))
any_load-step before test loads i d inside =
    rw (take_more loads i d inside, list_any-append test (take i loads) (get_or loads i d ∷ []), or-false (test (get_or loads i d)))
    (sym (or_assoc before (list_any test (take i loads)) (test (get_or loads i d))))

pub any_load-none : (before : Bool) (test : Load → Bool) (loads : List Load) → (before || list_any test (take 0 loads)) ≡ before
any_load-none before test loads = or-false before

pub ruleset any_load = (any_load-step, any_load-none)
