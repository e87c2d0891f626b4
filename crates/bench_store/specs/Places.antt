-- The first places of a store.
use Rattle.std.specs.Prelude.{ℕ, ◌<◌, None, IsSome, slice_index_or}
use Rattle.kn_base.specs.Memory.{Memory}

-- each of the first places has a key
abbrev pub AllSpelled : ℕ → Memory → Type 0
AllSpelled count memory = (place : ℕ) → place < count → IsSome (slice_index_or memory.keys place None)
