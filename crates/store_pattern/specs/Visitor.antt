-- A row of the visitors' book.
use Rattle.std.specs.Prelude.{ℕ, ◌==◌, ◌&&◌, Option, Some, None, List, drop, if◌then◌else◌, slice_index}
use Rattle.std.specs.Option.{option_map}
use Rattle.std.specs.Int.{from_le_bytes, w32}
use Rattle.store_pattern.specs.declared.visitor.Mood.{Mood}
use Rattle.store_pattern.specs.declared.visitor.Mood.TheVariants.{Quiet, Cheerful, Cross}
use Rattle.store_pattern.specs.declared.visitor.Visitor.{Visitor}

-- the mood of a number
abbrev pub mood_of : ℕ → Option Mood
mood_of kind = if kind == 1 then Some Quiet else if kind == 2 then Some Cheerful else if kind == 3 then Some Cross else None

-- the row that eight bytes spell: a mood, three zeros and the day
unfoldable pub visitor_of : List ℕ → Option Visitor
visitor_of bytes =
    if slice_index bytes 1 == 0 && slice_index bytes 2 == 0 && slice_index bytes 3 == 0
    then option_map (λ mood. record { mood = mood; day = from_le_bytes w32 (drop 4 bytes) }) (mood_of (slice_index bytes 0))
    else None
