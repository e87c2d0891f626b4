-- Words that are few.
use Rattle.std.proofs.Common.{◌≡◌, ℕ, ◌<◌, List, [], ◌∷◌, None, refl, length, arith}
use Rattle.std.specs.Prelude.{map}
use Rattle.command_line.specs.Words.{command_of}

-- one word, or none, is no command
pub few-words : {X : Type 0} (bytes : X → List ℕ) (words : List X) → length words < 2 → None ≡ command_of (map bytes words)
few-words bytes [] few = refl
few-words bytes (disk ∷ []) few = refl
few-words bytes (disk ∷ (word ∷ words)) few = absurd (omega (arith, few))
