-- The first reading, line by line.
use Rattle.std.proofs.Common.{◌≡◌, ℕ, ◌+◌, ◌<◌, ◌≤◌, List, ◌∷◌, Ok, Err, refl}
use Rattle.std.proofs.lemmas.Bool.{lt-ltb, le-ltb}
use Rattle.rv_asm.specs.declared.fault.AsmKind.TheVariants.{TooLong}
use Rattle.rv_asm.specs.Programs.{Refusal, Scan, at_line, scan_line, scan_lines}

pub too_many : (number : ℕ) (scan : Scan) (line : List ℕ) (lines : List (List ℕ)) → 100000 < number → scan_lines number scan (line ∷ lines) ≡ Err (record { kind = TooLong; line = number })
unfolding scan_lines
too_many number scan line lines more = rw (lt-ltb 100000 number more) refl

pub line_refused : (number : ℕ) (scan : Scan) (line : List ℕ) (lines : List (List ℕ)) (refusal : Refusal) → number ≤ 100000
    → at_line number (scan_line scan line) ≡ Err refusal → scan_lines number scan (line ∷ lines) ≡ Err refusal
unfolding scan_lines
line_refused number scan line lines refusal few refuses = rw (le-ltb 100000 number few) (rw refuses refl)

pub line_read : (number : ℕ) (scan next : Scan) (line : List ℕ) (lines : List (List ℕ)) → number ≤ 100000
    → at_line number (scan_line scan line) ≡ Ok next → scan_lines number scan (line ∷ lines) ≡ scan_lines (number + 1) next lines
unfolding scan_lines
line_read number scan next line lines few reads = rw (le-ltb 100000 number few) (rw reads refl)
