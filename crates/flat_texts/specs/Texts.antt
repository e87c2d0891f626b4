-- The texts of bytes.
use Rattle.std.specs.Prelude.{ℕ, ◌-◌, List, take, length}
use Rattle.std.specs.List.{slice_split}
use Rattle.unix_model.specs.Effect.{is_nul}

-- the parts between NULs but the last, after which there is none
unfoldable pub texts_in : List ℕ → List (List ℕ)
texts_in bytes = take (length (slice_split is_nul bytes) - 1) (slice_split is_nul bytes)
