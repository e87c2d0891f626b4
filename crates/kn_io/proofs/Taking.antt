-- Bytes taken in turn from a source, and what a source that tells gives.
use Rattle.std.proofs.Common.{◌≡◌, ℕ, List, [], ◌++◌, refl, sym, ◌∙◌, ap, append_assoc}
use Rattle.std.specs.Prelude.{Option, Some, None}
use Rattle.kn_io.specs.Source.{Takes}

-- Nothing was taken where nothing changed.
pub takes-nothing : (left : Option (List ℕ)) → Takes left [] left
takes-nothing (Some bytes) = refl
takes-nothing None = refl

-- Two takings in turn are one of the bytes joined.
pub takes-joined : (old between new : Option (List ℕ)) (x y : List ℕ) → Takes old x between → Takes between y new → Takes old (x ++ y) new
takes-joined old between (Some rest) x y first second = (rw second at first) ∙ ap (λ bytes. Some bytes) (sym (append_assoc x y rest))
takes-joined old between None x y first second = rw second at first

-- What was told begins with what was taken, and the rest is still told.
pub takes-told : (old new : Option (List ℕ)) (x bytes : List ℕ) → Takes old x new → old ≡ Some bytes → (rest : List ℕ) × (bytes ≡ x ++ rest) × (new ≡ Some rest)
takes-told old (Some rest) x bytes taken told = (rest, cc, refl)
takes-told old None x bytes taken told = let no : Some bytes ≡ None = sym told ∙ taken in cc

-- For code that takes one list of bytes after another.
pub ruleset taking = (takes-nothing, takes-joined)
