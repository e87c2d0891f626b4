-- What reading a schedule takes from a source, and what it leaves.
use Rattle.std.specs.Prelude.{◌≡◌, ◌≢◌, ℕ, List, [], ◌∷◌, ◌++◌, Option, Some, None, Result, Ok, Err}
use Rattle.unix_model.specs.Texts.{line_front, line_rest, lines_of}
use Rattle.plan.specs.declared.span.Span.{Span}
use Rattle.plan.specs.declared.streams.PlanFault.{PlanFault}
use Rattle.plan.specs.declared.streams.PlanFault.TheVariants.{BadPlan, ReadFault, NoMemory}
use Rattle.plan.specs.Plans.{numbered_span, spans_of}

-- a line with this number stood at the front of these bytes and says a span, and what is left of them
pub record IsNextSpan (number : ℕ) (bytes : List ℕ) (span : Span) (left : Option (List ℕ)) : Type 0 where
  pub there : bytes ≢ []
  pub says : numbered_span number (line_front bytes) ≡ Some span
  pub left_is : left ≡ Some (line_rest bytes)
  pub lines : lines_of bytes ≡ line_front bytes ∷ lines_of (line_rest bytes)

-- no byte was left, so there was no line
pub record IsEnd (bytes : List ℕ) (left : Option (List ℕ)) : Type 0 where
  pub ended : bytes ≡ []
  pub left_is : left ≡ Some []

-- a line with this number stood at the front of these bytes and is refused
pub record IsRefusedLine (number : ℕ) (bytes : List ℕ) : Type 0 where
  pub there : bytes ≢ []
  pub refused : numbered_span number (line_front bytes) ≡ None
  pub lines : lines_of bytes ≡ line_front bytes ∷ lines_of (line_rest bytes)

-- the span at the front of these bytes, where there is one
abbrev pub IsSpanRead : ℕ → List ℕ → Option Span → Option (List ℕ) → Type 0
IsSpanRead number bytes (Some span) left = IsNextSpan number bytes span left
IsSpanRead number bytes None left = IsEnd bytes left

-- why there is none
abbrev pub IsSpanFailed : ℕ → List ℕ → PlanFault → Type 0
IsSpanFailed number bytes (BadPlan line) = IsRefusedLine number bytes
IsSpanFailed number bytes ReadFault = Unit {0}
IsSpanFailed number bytes NoMemory = Unit {0}

-- where the source's bytes are told, the span of the line with this number that they have at their front after a reader's
-- first byte
abbrev pub TakesSpan : ℕ → List ℕ → Option (List ℕ) → Option Span → Option (List ℕ) → Type 0
TakesSpan number first old span new = (bytes : List ℕ) → old ≡ Some bytes → IsSpanRead number (first ++ bytes) span new

-- where they are told, that line says no span for this reason
abbrev pub FailsSpan : ℕ → List ℕ → Option (List ℕ) → PlanFault → Type 0
FailsSpan number first old fault = (bytes : List ℕ) → old ≡ Some bytes → IsSpanFailed number (first ++ bytes) fault

-- a refusal tells of the line with this number. Host memory is not asked for
abbrev pub IsAtLine : ℕ → PlanFault → Type 0
IsAtLine number (BadPlan line) = line ≡ number
IsAtLine number ReadFault = Unit {0}
IsAtLine number NoMemory = ⊥

-- how many lines an answer tells of
abbrev pub lines_told : Option Span → ℕ
lines_told None = 0
lines_told (Some span) = 1

-- where the source's bytes are told, all of them were taken, and these are their spans
abbrev pub TakesPlan : Option (List ℕ) → List Span → Option (List ℕ) → Type 0
TakesPlan old spans new = (bytes : List ℕ) → old ≡ Some bytes → (spans_of bytes ≡ Ok spans) × (new ≡ Some [])

-- the first line of a text says a span
abbrev pub SaysFirst : List ℕ → Type 0
SaysFirst bytes = (span : Span) × (numbered_span 1 (line_front bytes) ≡ Some span)

-- what a fault tells of a text: the first line that is refused; nothing where a call failed. Host memory is asked for only
-- once a line has said a span
abbrev pub TellsText : PlanFault → List ℕ → Type 0
TellsText (BadPlan line) bytes = spans_of bytes ≡ Err line
TellsText ReadFault bytes = Unit {0}
TellsText NoMemory bytes = SaysFirst bytes

-- what it tells where the source's bytes are told
abbrev pub FailsPlan : Option (List ℕ) → PlanFault → Type 0
FailsPlan old fault = (bytes : List ℕ) → old ≡ Some bytes → TellsText fault bytes

-- unless a call failed, the source's count of faults is the same
abbrev pub CountsSame : {A : Type 0} → Type 0 → Result A PlanFault → Type 0
CountsSame same (Ok answer) = same
CountsSame same (Err (BadPlan line)) = same
CountsSame same (Err NoMemory) = same
CountsSame same (Err ReadFault) = Unit {0}
