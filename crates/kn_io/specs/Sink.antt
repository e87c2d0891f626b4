-- What a sink gets.
use Rattle.std.specs.Prelude.{◌≡◌, ℕ, List, [], ◌++◌, refl}
use Rattle.std.proofs.Common.{append_assoc, append-nil, ap, ◌∙◌, sym}

-- A sink got a front of these bytes, and nothing else.
unfoldable pub GrewByPrefix : {S : Type 0} → (S → List ℕ → S → Type 0) → S → List ℕ → S → Type 0
GrewByPrefix grew old bytes new = (front : List ℕ) × (rest : List ℕ) × (front ++ rest ≡ bytes) × grew old front new

-- A piece, and then a front of another, is a front of the two joined.
pub prefix-joined : {S : Type 0} (grew : S → List ℕ → S → Type 0) →
    ((a b c : S) (x y : List ℕ) → grew a x b → grew b y c → grew a (x ++ y) c) →
    (a b c : S) (x y : List ℕ) → grew a x b → GrewByPrefix grew b y c → GrewByPrefix grew a (x ++ y) c
unfolding GrewByPrefix
prefix-joined grew joined a b c x y whole part =
    (x ++ part.0, part.1, append_assoc x part.0 part.1 ∙ ap (λ bytes. x ++ bytes) part.2, joined a b c x part.0 whole part.3)

-- Nothing is a front of anything.
pub prefix-of_nothing : {S : Type 0} (grew : S → List ℕ → S → Type 0) →
    ((s : S) → grew s [] s) → (s : S) (x : List ℕ) → GrewByPrefix grew s x s
unfolding GrewByPrefix
prefix-of_nothing grew nothing s x = ([], x, refl, nothing s)

-- A front of a piece is a front of that piece and more.
pub prefix-longer : {S : Type 0} (grew : S → List ℕ → S → Type 0) (a b : S) (x y : List ℕ) →
    GrewByPrefix grew a x b → GrewByPrefix grew a (x ++ y) b
unfolding GrewByPrefix
prefix-longer grew a b x y part =
    (part.0, part.1 ++ y, sym (append_assoc part.0 part.1 y) ∙ ap (λ bytes. bytes ++ y) part.2, part.3)

-- All of a piece is a front of it.
pub prefix-whole : {S : Type 0} (grew : S → List ℕ → S → Type 0) (a b : S) (x : List ℕ) →
    grew a x b → GrewByPrefix grew a x b
unfolding GrewByPrefix
prefix-whole grew a b x whole = (x, [], append-nil x, whole)
