-- A walk, part by part.
use Rattle.std.proofs.Common.{◌≡◌, ℕ, List, [], ◌∷◌, Result, Ok, Err, refl}
use Rattle.unix_model.specs.declared.calls.Errno.{Errno}
use Rattle.unix_model.specs.Files.{Files}
use Rattle.unix_model.specs.Paths.{Spot, stepped, walked_from}
use Rattle.unix_model.specs.Refusals.{◌>>=◌}
use Rattle.flat_files.specs.SpotView.{after_part}

-- the rest of a walk
abbrev pub walk_rest : Files → Result Spot Errno → List (List ℕ) → Result Spot Errno
walk_rest files found parts = found >>= (λ spot. walked_from files spot parts)

pub rest-step : (files : Files) (found : Result Spot Errno) (part : List ℕ) (parts : List (List ℕ))
    → walk_rest files found (part ∷ parts) ≡ walk_rest files (after_part files found part) parts
rest-step files (Ok spot) part parts = refl
rest-step files (Err errno) part parts = refl

last : (found : Result Spot Errno) → (found >>= (λ s. Ok s)) ≡ found
last (Ok spot) = refl
last (Err errno) = refl

pub rest-last : (files : Files) (found : Result Spot Errno) (part : List ℕ) → walk_rest files found (part ∷ []) ≡ after_part files found part
rest-last files (Ok spot) part = last (stepped files spot part)
rest-last files (Err errno) part = refl
