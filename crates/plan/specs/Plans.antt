-- Given schedules as texts, our own: each line says how many turns in a row a slot gets.
use Rattle.std.specs.Prelude.{ℕ, ◌+◌, ◌<◌, Bool, ◌||◌, List, [], ◌∷◌, ◌++◌, length, take, drop, position, replicate, Option, Some, None, Result, Ok, Err, ◌==◌, nat_lt, if◌then◌else◌}
use Rattle.unix_model.specs.Texts.{number_of, lines_of}
use Rattle.plan.specs.declared.span.Span.{Span}

-- the most bytes that a line has, and the most lines that a schedule has
abbrev pub most_line_bytes : ℕ
most_line_bytes = 1024

abbrev pub most_lines : ℕ
most_lines = 65536

-- one of the 64 slots, with at least one turn
abbrev pub IsInside : Span → Type 0
IsInside span = (span.slot < 64) × (0 < span.turns)

-- the space of ASCII
abbrev pub is_space : ℕ → Bool
is_space byte = byte == 32

-- a slot and a number of turns that isn't 0
abbrev pub span_told : Option ℕ → Option ℕ → Option Span
span_told None turns = None
span_told (Some slot) None = None
span_told (Some slot) (Some turns) = if turns == 0 then None else Some (record { slot = slot; turns = turns })

-- what a line says by its parts before and behind a space: a slot from 0 to 63, and 1 to 1,000,000,000 turns
abbrev pub span_around : List ℕ → Option ℕ → Option Span
span_around line None = None
span_around line (Some space) = span_told (number_of 63 (take space line)) (number_of 1000000000 (drop (space + 1) line))

-- the span that a line says, `SLOT TURNS`, both in plain decimal. The parts are divided by the first space: a number has
-- none
abbrev pub span_of : List ℕ → Option Span
span_of line = span_around line (position is_space line)

-- the span of the line with this number, where the line is neither too long nor one too many
unfoldable pub numbered_span : ℕ → List ℕ → Option Span
numbered_span number line = if nat_lt most_lines number || nat_lt most_line_bytes (length line) then None else span_of line

-- some spans, and then those that others give
abbrev pub spans_then : List Span → Result (List Span) ℕ → Result (List Span) ℕ
spans_then spans (Ok more) = Ok (spans ++ more)
spans_then spans (Err line) = Err line

-- a line's span, and then those that the lines behind it give; the line's number where it is refused
abbrev pub span_then : ℕ → Option Span → Result (List Span) ℕ → Result (List Span) ℕ
span_then number None more = Err number
span_then number (Some span) more = spans_then (span ∷ []) more

-- the spans of lines, of which the first has this number; the number of the first that is refused, where one is
unfoldable pub spans_from : ℕ → List (List ℕ) → Result (List Span) ℕ
spans_from number [] = Ok []
spans_from number (line ∷ lines) = span_then number (numbered_span number line) (spans_from (number + 1) lines)

-- the spans that a text says, or the first line that is refused. The first line is 1
abbrev pub spans_of : List ℕ → Result (List Span) ℕ
spans_of text = spans_from 1 (lines_of text)

-- the slots that get the turns, one after another
unfoldable pub slots_of : List Span → List ℕ
slots_of [] = []
slots_of (span ∷ spans) = replicate span.turns span.slot ++ slots_of spans
