-- From the spans that were read one after another to those of the text.
use Rattle.std.proofs.Common.{zero, suc, ◌≡◌, ℕ, ◌+◌, ◌<◌, List, [], ◌∷◌, ◌++◌, length, append-nil, Option, Some, None, Result, Ok, Err, refl, sym, ap, ◌∙◌, append_assoc, arith}
use Rattle.std.proofs.lemmas.Bool.Decides.{nat_tests}
use Rattle.unix_model.specs.Texts.{line_front, line_rest, lines_of}
use Rattle.unix_model.proofs.TextLaws.{lines_of-first, lines_of-nothing}
use Rattle.kn_text.specs.Lines.{IsNoLine, IsTooLong}
use Rattle.plan.specs.declared.span.Span.{Span}
use Rattle.plan.specs.declared.streams.PlanFault.{PlanFault}
use Rattle.plan.specs.declared.streams.PlanFault.TheVariants.{BadPlan, ReadFault, NoMemory}
use Rattle.plan.specs.Plans.{numbered_span, spans_then, spans_from, spans_of}
use Rattle.plan.specs.Streams.{IsEnd, IsRefusedLine, TakesSpan, FailsSpan, IsAtLine, TakesPlan, SaysFirst, FailsPlan}

-- a line that is too long is refused
long-refused : (number : ℕ) (line : List ℕ) → 1024 < length line → numbered_span number line ≡ None
unfolding numbered_span
long-refused number line long = grind (arith, nat_tests)

-- and so is the line at the front of bytes
pub too-long : (number : ℕ) (bytes line : List ℕ) (left : Option (List ℕ)) → IsTooLong bytes line left → IsRefusedLine number bytes
unfolding line_front
too-long number [] line left long = absurd (omega (arith, long.long))
too-long number (byte ∷ bytes) line left long = record {
  there = λ e. cc;
  refused = long-refused number (line_front (byte ∷ bytes)) long.long;
  lines = lines_of-first byte bytes;
}

-- where there was no line, the text has ended
pub is-end : (bytes line : List ℕ) (left : Option (List ℕ)) → IsNoLine bytes line left → IsEnd bytes left
is-end bytes line left none = record { ended = none.ended; left_is = none.left_is }

-- so many lines of a text said these spans, and the rest is left
abbrev pub ReadsSoFar : Option (List ℕ) → List Span → ℕ → Option (List ℕ) → Type 0
ReadsSoFar old spans count left =
    (bytes : List ℕ) → old ≡ Some bytes → (rest : List ℕ) × (left ≡ Some rest) × (spans_of bytes ≡ spans_then spans (spans_from (count + 1) (lines_of rest)))

-- no spans before others
spans_then-none : (given : Result (List Span) ℕ) → spans_then [] given ≡ given
spans_then-none (Ok more) = refl
spans_then-none (Err line) = refl

-- one more span before others
spans_then-one : (spans : List Span) (span : Span) (given : Result (List Span) ℕ) → spans_then spans (spans_then (span ∷ []) given) ≡ spans_then (spans ++ span ∷ []) given
spans_then-one spans span (Ok more) = ap (λ all. Ok all) (sym (append_assoc spans (span ∷ []) more))
spans_then-one spans span (Err line) = refl

-- the spans from a line on that says one, and from one that is refused
from-said : (number : ℕ) (span : Span) (line : List ℕ) (lines : List (List ℕ)) → numbered_span number line ≡ Some span → spans_from number (line ∷ lines) ≡ spans_then (span ∷ []) (spans_from (number + 1) lines)
unfolding spans_from
from-said number span line lines says = rw says refl

from-refused : (number : ℕ) (line : List ℕ) (lines : List (List ℕ)) → numbered_span number line ≡ None → spans_from number (line ∷ lines) ≡ Err number
unfolding spans_from
from-refused number line lines refused = rw refused refl

from-nothing : (number : ℕ) → spans_from number (lines_of []) ≡ Ok []
unfolding spans_from
from-nothing number = rw lines_of-nothing refl

-- before the first line
pub so-far-none : (old : Option (List ℕ)) → ReadsSoFar old [] 0 old
so-far-none old = λ bytes told. (bytes, told, sym (spans_then-none (spans_from 1 (lines_of bytes))))

-- one line more
pub so-far-more : (old left now : Option (List ℕ)) (first : List ℕ) (spans : List Span) (count : ℕ) (span : Span) → ReadsSoFar old spans count left → first ≡ [] → TakesSpan (count + 1) first left (Some span) now → ReadsSoFar old (spans ++ span ∷ []) (count + 1) now
so-far-more old left now first spans count span so_far none takes = λ bytes told.
    let r = so_far bytes told in
    let next = (rw none at takes) r.0 r.1 in
    (line_rest r.0, next.left_is, r.2 ∙ ap (λ lines. spans_then spans (spans_from (count + 1) lines)) next.lines ∙ ap (spans_then spans) (from-said (count + 1) span (line_front r.0) (lines_of (line_rest r.0)) next.says) ∙ spans_then-one spans span (spans_from (count + 1 + 1) (lines_of (line_rest r.0))))

-- the end came
pub read-whole : (old left now : Option (List ℕ)) (first : List ℕ) (spans : List Span) (count : ℕ) → ReadsSoFar old spans count left → first ≡ [] → TakesSpan (count + 1) first left None now → TakesPlan old spans now
read-whole old left now first spans count so_far none takes = λ bytes told.
    let r = so_far bytes told in
    let next = (rw none at takes) r.0 r.1 in
    (r.2 ∙ ap (λ rest. spans_then spans (spans_from (count + 1) (lines_of rest))) next.ended ∙ ap (spans_then spans) (from-nothing (count + 1)) ∙ ap (λ all. Ok all) (append-nil spans), next.left_is)

-- a fault came
pub read-fails : (old left : Option (List ℕ)) (first : List ℕ) (spans : List Span) (count : ℕ) (fault : PlanFault) → ReadsSoFar old spans count left → first ≡ [] → IsAtLine (count + 1) fault → FailsSpan (count + 1) first left fault → FailsPlan old fault
read-fails old left first spans count (BadPlan line) so_far none at_line fails = λ bytes told.
    let r = so_far bytes told in
    let next = (rw none at fails) r.0 r.1 in
    rw at_line (r.2 ∙ ap (λ lines. spans_then spans (spans_from (count + 1) lines)) next.lines ∙ ap (spans_then spans) (from-refused (count + 1) (line_front r.0) (lines_of (line_rest r.0)) next.refused))
read-fails old left first spans count ReadFault so_far none at_line fails = λ bytes told. tt
read-fails old left first spans count NoMemory so_far none at_line fails = absurd at_line

-- where lines were read, the first one says a span; where none was, the whole text is left
abbrev pub FirstSaid : Option (List ℕ) → ℕ → Option (List ℕ) → Type 0
FirstSaid old count left = (bytes : List ℕ) → old ≡ Some bytes → (0 < count → SaysFirst bytes) × (count ≡ 0 → left ≡ Some bytes)

-- before the first line
pub first-none : (old : Option (List ℕ)) (count : ℕ) → count ≡ 0 → FirstSaid old count old
first-none old count begins = λ bytes told. (λ some. absurd (omega (arith, some, begins)), λ no. told)

-- one line more
pub first-more : (old left now : Option (List ℕ)) (first : List ℕ) (count : ℕ) (span : Span) → FirstSaid old count left → first ≡ [] → TakesSpan (count + 1) first left (Some span) now → FirstSaid old (count + 1) now
first-more old left now first zero span said none takes = λ bytes told.
    let next = (rw none at takes) bytes ((said bytes told).1 refl) in
    (λ some. (span, next.says), λ no. absurd (omega (arith, no)))
first-more old left now first (suc count) span said none takes = λ bytes told.
    (λ some. (said bytes told).0 (omega arith), λ no. absurd (omega (arith, no)))

-- host memory ran out behind it
pub memory-out : (old left now : Option (List ℕ)) (first : List ℕ) (count : ℕ) (span : Span) → FirstSaid old count left → first ≡ [] → TakesSpan (count + 1) first left (Some span) now → FailsPlan old NoMemory
memory-out old left now first count span said none takes = λ bytes told.
    (first-more old left now first count span said none takes bytes told).0 (omega arith)
