-- From lines that were read to those of the definition.
use Rattle.std.proofs.Common.{◌≡◌, ℕ, ◌<◌, ◌≤◌, List, [], ◌∷◌, length, Option, Some, Ok, Err, refl, ap, arith}
use Rattle.std.proofs.lemmas.Bool.{lt-ltb, le-ltb}
use Rattle.kn_text.specs.Lines.{IsFirstLine, IsNoLine}
use Rattle.unix_model.specs.Texts.{line_front, line_rest}
use Rattle.bundle.specs.declared.fault.BundleKind.TheVariants.{Syntax, TooLong}
use Rattle.bundle.specs.Outcomes.{next_line}

-- a line was read
pub line-read : (bytes line : List ℕ) (left : Option (List ℕ)) → IsFirstLine bytes line left
    → (rest : List ℕ) × (left ≡ Some rest) × (next_line bytes ≡ Ok (record { line = line; rest = rest }))
unfolding next_line
line-read [] line left first = absurd (first.there refl)
line-read (byte ∷ bytes) line left first =
    let short : length (line_front (byte ∷ bytes)) ≤ 1024 = omega (arith, first.short, ap length first.line_is) in
    (line_rest (byte ∷ bytes), first.left_is, rw (le-ltb 1024 (length (line_front (byte ∷ bytes))) short, first.line_is) refl)

-- none was there
pub line-missing : (bytes line : List ℕ) (left : Option (List ℕ)) → IsNoLine bytes line left → next_line bytes ≡ Err Syntax
unfolding next_line
line-missing bytes line left none = rw none.ended refl

-- it is too long
pub line-long : (bytes : List ℕ) → 1024 < length (line_front bytes) → next_line bytes ≡ Err TooLong
unfolding next_line line_front
line-long [] long = absurd (omega (arith, long))
line-long (byte ∷ bytes) long = rw (lt-ltb 1024 (length (line_front (byte ∷ bytes))) long) refl
