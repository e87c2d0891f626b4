-- Pieces that are appended one after the other are appended as one.
use Rattle.std.proofs.Common.{◌≡◌, ℕ, List, ◌++◌, ◌∙◌, ap, append_assoc}

-- a piece more
pub next : (old so_far more : List ℕ) (before after : List ℕ) → before ≡ old ++ so_far → after ≡ before ++ more → after ≡ old ++ (so_far ++ more)
next old so_far more before after first second = second ∙ ap (λ text. text ++ more) first ∙ append_assoc old so_far more
