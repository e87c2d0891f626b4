-- Refusals of the assembler: at a line of the source, or at the one behind it.
use Rattle.std.proofs.Common.{◌≡◌, ℕ, ◌+◌, ◌≤◌, List, [], ◌∷◌, length, Bool, true, false, Result, Ok, Err, refl, ap, inl, inr, nat_lt, arith}
use Rattle.std.specs.Prelude.{◌⊎◌, ◌==◌, if◌then◌else◌}
use Rattle.std.proofs.lemmas.Bool.Decides.{nat_tests}
use Rattle.unix_model.specs.Texts.{lines_of}
use Rattle.rv_asm.specs.declared.fault.AsmKind.{AsmKind}
use Rattle.rv_asm.specs.declared.fault.AsmKind.TheVariants.{TooLong, Syntax}
use Rattle.rv_asm.specs.Layout.{moved, start}
use Rattle.rv_asm.specs.declared.layout.Position.{Position}
use Rattle.rv_asm.specs.Programs.{Layout, Refusal, Scan, ◌>>=◌, assembled, at_line, layout_of, make, make_lines, made_of, most_lines, scan_line, scan_lines, start_scan, statement_at}

-- a line's own refusal stands at its number
at_line-refused : {A : Type 0} (number : ℕ) (said : Result A AsmKind) (refusal : Refusal) → at_line number said ≡ Err refusal → refusal.line ≡ number
at_line-refused number (Ok value) refusal refuses = cc
at_line-refused number (Err kind) refusal refuses = cc

-- a refusal of two steps is one of the first, or of the second
bind-refused : {A B : Type 0} (first : Result A Refusal) (second : A → Result B Refusal) (refusal : Refusal) → (first >>= second) ≡ Err refusal
    → (first ≡ Err refusal) ⊎ ((value : A) × (first ≡ Ok value) × (second value ≡ Err refusal))
bind-refused (Ok value) second refusal refuses = inr (value, refl, refuses)
bind-refused (Err other) second refusal refuses = inl cc

if-refused : {A : Type 0} (test : Bool) (first refusal : Refusal) (second : Result A Refusal) → (if test then Err first else second) ≡ Err refusal
    → ((test ≡ true) × (first ≡ refusal)) ⊎ ((test ≡ false) × (second ≡ Err refusal))
if-refused true first refusal second refuses = inl (refl, cc)
if-refused false first refusal second refuses = inr (refl, refuses)

if-passed : {A : Type 0} (test : Bool) (first : Refusal) (second : Result A Refusal) (value : A) → (if test then Err first else second) ≡ Ok value → (test ≡ false) × (second ≡ Ok value)
if-passed true first second value passes = absurd cc
if-passed false first second value passes = (refl, passes)

bind-passed : {A B : Type 0} (first : Result A Refusal) (second : A → Result B Refusal) (value : B) → (first >>= second) ≡ Ok value → (x : A) × (first ≡ Ok x) × (second x ≡ Ok value)
bind-passed (Ok x) second value passes = (x, refl, passes)
bind-passed (Err refusal) second value passes = absurd cc

err-is-no-ok : {A : Type 0} {value : A} {refusal : Refusal} → Ok value ≡ Err refusal → ⊥
err-is-no-ok e = cc

below : (number : ℕ) → nat_lt most_lines number ≡ false → number ≤ 100000
below number test = grind (arith, nat_tests, test)

-- the first reading: the line after 100,000 is the last that can be refused
scan-few : (number : ℕ) (scan : Scan) (lines : List (List ℕ)) (refusal : Refusal) → number ≤ 100001 → scan_lines number scan lines ≡ Err refusal → refusal.line ≤ 100001
unfolding scan_lines
scan-few number scan [] refusal few refuses = absurd cc
scan-few number scan (line ∷ lines) refusal few refuses =
    elim (if-refused (nat_lt most_lines number) (record { kind = TooLong; line = number }) refusal _ refuses) as (λ _. refusal.line ≤ 100001) [
      | inl many ↦ let e = ap (λ r. r.line) many.1 in omega (arith, e)
      | inr fine ↦ elim (bind-refused (at_line number (scan_line scan line)) _ refusal fine.1) as (λ _. refusal.line ≤ 100001) [
        | inl here ↦ let e = at_line-refused number (scan_line scan line) refusal here in omega (arith, e)
        | inr later ↦
            scan-few (number + 1) later.0 lines refusal (omega (arith, below number fine.0)) later.2
      ]
    ]

-- and no line follows it
scan-length : (number : ℕ) (scan final : Scan) (lines : List (List ℕ)) → number ≤ 100001 → scan_lines number scan lines ≡ Ok final → number + length lines ≤ 100001
unfolding scan_lines
scan-length number scan final [] few reads = omega (arith, few)
scan-length number scan final (line ∷ lines) few reads =
    let passed = if-passed (nat_lt most_lines number) (record { kind = TooLong; line = number }) _ final reads in
    let read = bind-passed (at_line number (scan_line scan line)) _ final passed.1 in
    let more = scan-length (number + 1) read.0 final lines (omega (arith, below number passed.0)) read.2 in
    omega (arith, more)

-- the second reading: a line of the source
make-few : (layout : Layout) (number : ℕ) (position : Position) (lines : List (List ℕ)) (refusal : Refusal) → make_lines layout number position lines ≡ Err refusal → refusal.line + 1 ≤ number + length lines
unfolding make_lines
make-few layout number position [] refusal refuses = absurd cc
make-few layout number position (line ∷ lines) refusal refuses =
    elim (bind-refused (at_line number (made_of layout position (statement_at position.part line))) _ refusal refuses) as (λ _. refusal.line + 1 ≤ number + length (line ∷ lines)) [
      | inl here ↦ let e = at_line-refused number (made_of layout position (statement_at position.part line)) refusal here in omega (arith, e)
      | inr later ↦ elim (bind-refused (make_lines layout (number + 1) (moved (statement_at position.part line) position) lines) _ refusal later.2) as (λ _. refusal.line + 1 ≤ number + length (line ∷ lines)) [
        | inl there ↦ let more = make-few layout (number + 1) (moved (statement_at position.part line) position) lines refusal there in omega (arith, more)
        | inr none ↦ absurd (err-is-no-ok none.2)
      ]
    ]

-- a source is refused at one of the first 100,001 lines
pub assembled-few : (text : List ℕ) (refusal : Refusal) → assembled text ≡ Err refusal → refusal.line ≤ 100001
unfolding assembled
assembled-few text refusal refuses =
    elim (bind-refused (scan_lines 1 start_scan (lines_of text)) (make (lines_of text)) refusal refuses) as (λ _. refusal.line ≤ 100001) [
      | inl first ↦ scan-few 1 start_scan (lines_of text) refusal (omega arith) first
      | inr later ↦
          let length-fits = scan-length 1 start_scan later.0 (lines_of text) (omega arith) later.1 in
          elim (if-refused (later.0.position.text_bytes == 0) (record { kind = Syntax; line = length (lines_of text) + 1 }) refusal _ later.2) as (λ _. refusal.line ≤ 100001) [
            | inl none ↦ let e = ap (λ r. r.line) none.1 in omega (arith, e, length-fits)
            | inr some ↦ let e = make-few (layout_of later.0) 1 start (lines_of text) refusal some.1 in omega (arith, e, length-fits)
          ]
    ]

-- and so is its front
pub front-few : (text : List ℕ) (refusal : Refusal) → scan_lines 1 start_scan (lines_of text) ≡ Err refusal → refusal.line ≤ 100001
front-few text refusal refuses = scan-few 1 start_scan (lines_of text) refusal (omega arith) refuses
