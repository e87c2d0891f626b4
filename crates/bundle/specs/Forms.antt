-- The names of a path, one after another.
use Rattle.std.specs.Prelude.{◌≡◌, ℕ, ◌+◌, ◌<◌, true, false, ◌||◌, List, [], ◌∷◌, length, take, drop, slice_index, nat_lt}
use Rattle.std.specs.List.{list_all, list_any, slice_split}
use Rattle.unix_model.specs.Paths.{is_slash}
use Rattle.bundle.specs.Paths.{is_long_name, is_name, is_nul}
use Rattle.bundle.specs.declared.paths.NameEnd.{NameEnd}
use Rattle.bundle.specs.declared.paths.NameEnd.TheVariants as ending
use Rattle.bundle.specs.declared.paths.Part.{Part}
use Rattle.bundle.specs.declared.paths.Part.TheVariants.{Bad, Name, Last}

-- what stands between slashes
abbrev pub parts : List ℕ → List (List ℕ)
parts bytes = slice_split is_slash bytes

-- no slash is among bytes
abbrev pub HasNoSlash : List ℕ → Type 0
HasNoSlash bytes = (k : ℕ) → k < length bytes → is_slash (slice_index bytes k) ≡ false

-- the first slash stands here, and no NUL comes before it
pub record EndsAtSlash (bytes : List ℕ) (place : ℕ) : Type 0 where
  pub inside : place < length bytes
  pub here : is_slash (slice_index bytes place) ≡ true
  pub cut : parts bytes ≡ take place bytes ∷ parts (drop (place + 1) bytes)
  pub no_nul : list_any is_nul (take place bytes) ≡ false

-- there is no slash and no NUL
pub record EndsLast (bytes : List ℕ) : Type 0 where
  pub no_slash : HasNoSlash bytes
  pub cut : parts bytes ≡ bytes ∷ []
  pub no_nul : list_any is_nul bytes ≡ false

-- where the first name ends
abbrev pub EndsAt : List ℕ → NameEnd → Type 0
EndsAt bytes ending.Nul = list_all is_name (parts bytes) ≡ false
EndsAt bytes (ending.Slash place) = EndsAtSlash bytes place
EndsAt bytes ending.Last = EndsLast bytes

-- a name, and a slash after it
pub record BeginsWithName (bytes : List ℕ) (place : ℕ) : Type 0 where
  pub inside : place < length bytes
  pub here : is_slash (slice_index bytes place) ≡ true
  pub names : list_all is_name (parts bytes) ≡ list_all is_name (parts (drop (place + 1) bytes))
  pub long : list_any is_long_name (parts bytes) ≡ nat_lt 27 place || list_any is_long_name (parts (drop (place + 1) bytes))

-- a name, and nothing after it
pub record IsLastName (bytes : List ℕ) : Type 0 where
  pub no_slash : HasNoSlash bytes
  pub names : list_all is_name (parts bytes) ≡ true
  pub long : list_any is_long_name (parts bytes) ≡ nat_lt 27 (length bytes)

-- what stands before the first slash
abbrev pub IsPart : List ℕ → Part → Type 0
IsPart bytes Bad = list_all is_name (parts bytes) ≡ false
IsPart bytes (Name place) = BeginsWithName bytes place
IsPart bytes Last = IsLastName bytes
