-- A long source is refused by its first bytes, whatever follows them.
use Rattle.std.proofs.Common.{◌≡◌, ℕ, zero, suc, ◌+◌, ◌*◌, ◌<◌, ◌≤◌, ◌⊎◌, Bool, true, false, List, [], ◌∷◌, ◌++◌, length, Ok, Err, Result, refl, sym, ap, subst, ◌∙◌, inl, inr, arith, length-append, append-nil, Option, Some, ◌≢◌}
use Rattle.std.proofs.lemmas.Bool.{lt-ltb, le-ltb, ltb-false, ltb-true}
use Rattle.std.specs.Prelude.{nat_lt, if◌then◌else◌}
use Rattle.unix_model.specs.Texts.{ends_line, line_front, line_rest, lines_of}
use Rattle.unix_model.proofs.TextLaws.{lines_of-first}
use Rattle.kn_io.proofs.Taking.{takes-told}
use Rattle.kn_io.specs.Source.{IsAtEnd, Takes}
use Rattle.rv_asm.specs.declared.fault.AsmKind.{AsmKind}
use Rattle.rv_asm.specs.declared.fault.AsmKind.TheVariants.{TooLong}
use Rattle.rv_asm.specs.Programs.{Program, Refusal, Scan, ◌>>=◌, assembled, at_line, make, scan_line, scan_lines, start_scan}

-- Where the first line of a front ends, in it or behind it: its first line and what follows that, and the same of the
-- front with other bytes behind it.
abbrev Cut : List ℕ → List ℕ → List ℕ → List ℕ → List ℕ → List ℕ → Type 0
Cut front rest line behind whole after =
    ((whole ≡ line) × (after ≡ behind ++ rest) × (length front ≡ length line + length behind + 1))
    ⊎ ((length line ≡ length front) × (length front ≤ length whole))

one_more : (byte : ℕ) (front rest line behind whole after : List ℕ) → Cut front rest line behind whole after → Cut (byte ∷ front) rest (byte ∷ line) behind (byte ∷ whole) after
one_more byte front rest line behind whole after (inl cut) = inl (ap (λ line. byte ∷ line) cut.0, cut.1, omega (arith, cut.2))
one_more byte front rest line behind whole after (inr cut) = inr (omega (arith, cut.0), omega (arith, cut.1))

cut : (front rest : List ℕ) → Cut front rest (line_front front) (line_rest front) (line_front (front ++ rest)) (line_rest (front ++ rest))
unfolding line_front line_rest
cut [] rest = inr (refl, omega arith)
cut (byte ∷ front) rest =
    elim (ends_line byte) as (λ ends. Cut (byte ∷ front) rest (if ends then [] else byte ∷ line_front front) (if ends then front else line_rest front) (if ends then [] else byte ∷ line_front (front ++ rest)) (if ends then front ++ rest else line_rest (front ++ rest))) [
      | true ↦ inl (refl, refl, omega arith)
      | false ↦ one_more byte front rest (line_front front) (line_rest front) (line_front (front ++ rest)) (line_rest (front ++ rest)) (cut front rest)
    ]

-- a text that isn't empty has a first line
first_of : (text : List ℕ) → 0 < length text → lines_of text ≡ line_front text ∷ lines_of (line_rest text)
first_of [] some = absurd (omega (arith, some))
first_of (byte ∷ bytes) some = lines_of-first byte bytes

-- two readings are refused, and alike
record Alike (first second : Result Scan Refusal) : Type 0 where
  refusal : Refusal
  first_is : first ≡ Err refusal
  second_is : second ≡ Err refusal

abbrev refused_at : AsmKind → ℕ → Refusal
refused_at kind number = record { kind = kind; line = number }

-- a line past the last that a source may have
past_last : (number : ℕ) (scan : Scan) (line : List ℕ) (lines : List (List ℕ)) → 100000 < number → scan_lines number scan (line ∷ lines) ≡ Err (refused_at TooLong number)
unfolding scan_lines
past_last number scan line lines past = rw (lt-ltb 100000 number past) refl

-- one that it may have
one_line : (number : ℕ) (scan : Scan) (line : List ℕ) (lines : List (List ℕ)) → nat_lt 100000 number ≡ false → scan_lines number scan (line ∷ lines) ≡ (at_line number (scan_line scan line) >>= λ next. scan_lines (number + 1) next lines)
unfolding scan_lines
one_line number scan line lines fits = rw fits refl

-- a line that is too long
long_line : (scan : Scan) (line : List ℕ) → 1024 < length line → scan_line scan line ≡ Err TooLong
unfolding scan_line
long_line scan line long = rw (lt-ltb 1024 (length line) long) refl

too_long : (number : ℕ) (scan : Scan) (line : List ℕ) (lines : List (List ℕ)) → nat_lt 100000 number ≡ false → 1024 < length line → scan_lines number scan (line ∷ lines) ≡ Err (refused_at TooLong number)
too_long number scan line lines fits passes =
    one_line number scan line lines fits ∙ ap (λ found. at_line number found >>= λ next. scan_lines (number + 1) next lines) (long_line scan line passes)

-- one line more at the front of both
same_line : (number : ℕ) (scan : Scan) (line : List ℕ) (lines others : List (List ℕ)) → nat_lt 100000 number ≡ false → ((next : Scan) → Alike (scan_lines (number + 1) next lines) (scan_lines (number + 1) next others))
    → Alike (scan_lines number scan (line ∷ lines)) (scan_lines number scan (line ∷ others))
same_line number scan line lines others fits behind =
    let alike : Alike (at_line number (scan_line scan line) >>= λ next. scan_lines (number + 1) next lines) (at_line number (scan_line scan line) >>= λ next. scan_lines (number + 1) next others) = by (scan_line scan line) in
    record { refusal = alike.refusal; first_is = one_line number scan line lines fits ∙ alike.first_is; second_is = one_line number scan line others fits ∙ alike.second_is }
  where
    by : (found : Result Scan AsmKind) → Alike (at_line number found >>= λ next. scan_lines (number + 1) next lines) (at_line number found >>= λ next. scan_lines (number + 1) next others)
    by (Ok next) = behind next
    by (Err kind) = record { refusal = refused_at kind number; first_is = refl; second_is = refl }

-- what follows the first line is read alike, where the lines still to come can't hold it
abbrev AlikeBehind : ℕ → ℕ → List ℕ → List ℕ → Type 0
AlikeBehind most number front rest =
    (next : Scan) → 1025 * most < length (line_rest front) → Alike (scan_lines (number + 1) next (lines_of (line_rest front))) (scan_lines (number + 1) next (lines_of (line_rest front ++ rest)))

-- A front that the lines still to come can't hold is read as with other bytes behind it, and refused.
alike : (most number : ℕ) → number + most ≡ 100001 → (scan : Scan) (front rest : List ℕ) → 1025 * most < length front → Alike (scan_lines number scan (lines_of front)) (scan_lines number scan (lines_of (front ++ rest)))
alike zero number numbers scan front rest passes =
    let past : 100000 < number = omega (arith, numbers) in
    let some : 0 < length front = omega (arith, passes) in
    let more : 0 < length (front ++ rest) = grind (arith, length-append, some) in
    record {
      refusal = refused_at TooLong number;
      first_is = ap (scan_lines number scan) (first_of front some) ∙ past_last number scan (line_front front) (lines_of (line_rest front)) past;
      second_is = ap (scan_lines number scan) (first_of (front ++ rest) more) ∙ past_last number scan (line_front (front ++ rest)) (lines_of (line_rest (front ++ rest))) past;
    }
alike (suc most) number numbers scan front rest passes =
    by (λ next. alike most (number + 1) (omega (arith, numbers)) next (line_rest front) rest) (cut front rest)
  where
    fits : nat_lt 100000 number ≡ false
    fits = le-ltb 100000 number (omega (arith, numbers))

    some : 0 < length front
    some = omega (arith, passes)

    more : 0 < length (front ++ rest)
    more = grind (arith, length-append, some)

    both_long : 1024 < length (line_front front) → 1024 < length (line_front (front ++ rest)) → Alike (scan_lines number scan (lines_of front)) (scan_lines number scan (lines_of (front ++ rest)))
    both_long first second = record {
      refusal = refused_at TooLong number;
      first_is = ap (scan_lines number scan) (first_of front some) ∙ too_long number scan (line_front front) (lines_of (line_rest front)) fits first;
      second_is = ap (scan_lines number scan) (first_of (front ++ rest) more) ∙ too_long number scan (line_front (front ++ rest)) (lines_of (line_rest (front ++ rest))) fits second;
    }

    ended : AlikeBehind most number front rest → line_front (front ++ rest) ≡ line_front front → line_rest (front ++ rest) ≡ line_rest front ++ rest → length front ≡ length (line_front front) + length (line_rest front) + 1 → length (line_front front) ≤ 1024
        → Alike (scan_lines number scan (lines_of front)) (scan_lines number scan (lines_of (front ++ rest)))
    ended alike_behind same after whole short =
        let behind : (next : Scan) → Alike (scan_lines (number + 1) next (lines_of (line_rest front))) (scan_lines (number + 1) next (lines_of (line_rest front ++ rest))) =
        λ next. alike_behind next (omega (arith, passes, whole, short)) in
        let found : Alike (scan_lines number scan (line_front front ∷ lines_of (line_rest front))) (scan_lines number scan (line_front front ∷ lines_of (line_rest front ++ rest))) =
        same_line number scan (line_front front) (lines_of (line_rest front)) (lines_of (line_rest front ++ rest)) fits behind in
        record {
          refusal = found.refusal;
          first_is = ap (scan_lines number scan) (first_of front some) ∙ found.first_is;
          second_is = ap (scan_lines number scan) (first_of (front ++ rest) more) ∙ ap (λ line. scan_lines number scan (line ∷ lines_of (line_rest (front ++ rest)))) same
              ∙ ap (λ behind. scan_lines number scan (line_front front ∷ lines_of behind)) after ∙ found.second_is;
        }

    by_length : AlikeBehind most number front rest → line_front (front ++ rest) ≡ line_front front → line_rest (front ++ rest) ≡ line_rest front ++ rest → length front ≡ length (line_front front) + length (line_rest front) + 1
        → (test : Bool) → nat_lt 1024 (length (line_front front)) ≡ test → Alike (scan_lines number scan (lines_of front)) (scan_lines number scan (lines_of (front ++ rest)))
    by_length alike_behind same after whole true is = both_long (ltb-true 1024 (length (line_front front)) is) (subst (λ line. 1024 < length line) (sym same) (ltb-true 1024 (length (line_front front)) is))
    by_length alike_behind same after whole false is = ended alike_behind same after whole (ltb-false 1024 (length (line_front front)) is)

    by : AlikeBehind most number front rest → Cut front rest (line_front front) (line_rest front) (line_front (front ++ rest)) (line_rest (front ++ rest)) → Alike (scan_lines number scan (lines_of front)) (scan_lines number scan (lines_of (front ++ rest)))
    by alike_behind (inl ends) = by_length alike_behind ends.0 ends.1 ends.2 (nat_lt 1024 (length (line_front front))) refl
    by alike_behind (inr ends) = both_long (omega (arith, passes, ends.0)) (omega (arith, passes, ends.1))

-- 100,000 lines and one byte are refused, and whatever bytes follow
pub long-refused : (front rest : List ℕ) → 102500000 < length front → (refusal : Refusal) × (assembled front ≡ Err refusal) × (assembled (front ++ rest) ≡ Err refusal)
unfolding assembled
long-refused front rest passes =
    let found : Alike (scan_lines 1 start_scan (lines_of front)) (scan_lines 1 start_scan (lines_of (front ++ rest))) = alike 100000 1 refl start_scan front rest passes in
    (found.refusal, ap (λ scan. scan >>= make (lines_of front)) found.first_is, ap (λ scan. scan >>= make (lines_of (front ++ rest))) found.second_is)

-- A front of a source that is all of it, or has 102,500,001 bytes, means what the source means; and where that is a
-- program, nothing is left.
pub front-means : (old new : Option (List ℕ)) (front bytes : List ℕ) → Takes old front new → (length front ≢ 102500001 → IsAtEnd new) → old ≡ Some bytes
    → (assembled bytes ≡ assembled front) × ((program : Program) → assembled front ≡ Ok program → new ≡ Some [])
front-means old new front bytes taken whole told = by (nat_lt 102500000 (length front)) refl
  where
    parts : (rest : List ℕ) × (bytes ≡ front ++ rest) × (new ≡ Some rest)
    parts = takes-told old new front bytes taken told

    by : (test : Bool) → nat_lt 102500000 (length front) ≡ test → (assembled bytes ≡ assembled front) × ((program : Program) → assembled front ≡ Ok program → new ≡ Some [])
    by true is =
        let refused = long-refused front parts.0 (ltb-true 102500000 (length front) is) in
        (ap assembled parts.1 ∙ refused.2 ∙ sym refused.1, λ program means. let no : Err refused.0 ≡ Ok program = sym refused.1 ∙ means in cc)
    by false is =
        let short : length front ≤ 102500000 = ltb-false 102500000 (length front) is in
        let ended : parts.0 ≡ [] = whole (omega (arith, short)) parts.0 parts.2 in
        (ap assembled (parts.1 ∙ ap (λ rest. front ++ rest) ended ∙ append-nil front), λ program means. parts.2 ∙ ap (λ rest. Some rest) ended)
