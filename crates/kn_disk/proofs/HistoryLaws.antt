-- One more change in a history.
use Rattle.std.proofs.Common.{◌≡◌, ◌≤◌, ◌+◌, ℕ, suc, List, [], ◌∷◌, ◌++◌, length, map, reverse, refl, ◌∙◌, ap, arith, rules}
use Rattle.std.specs.Prelude.{All}
use Rattle.std.proofs.lemmas.List.{map-append, reverse-append, places, same_lists}
use Rattle.kn_base.specs.Rows.{part_at}
use Rattle.kn_disk.specs.Steps.{Written}
use Rattle.kn_disk.specs.Changes.{step_of, steps_of, IsWithin}
use Rattle.kn_disk.specs.declared.change.Change.{Change}
use Rattle.kn_disk.specs.declared.change.Change.TheVariants as change

pub steps-push : (log : List ℕ) (changes : List Change) (c : Change) → steps_of log (changes ++ c ∷ []) ≡ step_of log c ∷ steps_of log changes
unfolding steps_of
steps-push log changes c = ap reverse (map-append (step_of log) changes (c ∷ [])) ∙ reverse-append (map (step_of log) changes) (step_of log c ∷ [])

-- bytes that are appended to those that were written leave the parts before them
part-longer : (log more : List ℕ) (from count : ℕ) → from + count ≤ length log → part_at (log ++ more) from count ≡ part_at log from count
part-longer log more from count h = same_lists _ _ (search (rules, places)) (λ k d l. grind (arith, places))

part-appended : (log more : List ℕ) → part_at (log ++ more) (length log) (length more) ≡ more
part-appended log more = same_lists _ _ (search (rules, places)) (λ k d l. grind (arith, places))

step-longer : (log more : List ℕ) (c : Change) → IsWithin (length log) c → step_of (log ++ more) c ≡ step_of log c
step-longer log more (change.Written at from count) h = ap (Written at) (part-longer log more from count h)
step-longer log more (change.Cut n) h = refl
step-longer log more change.Synced h = refl

steps-longer : (log more : List ℕ) (changes : List Change) → All (IsWithin (length log)) changes → map (step_of (log ++ more)) changes ≡ map (step_of log) changes
steps-longer log more [] h = refl
steps-longer log more (c ∷ rest) h =
    let first = step-longer log more c (h 0 c (omega arith)) in
    let others = steps-longer log more rest (λ k d l. h (suc k) d (omega (arith, l))) in
    ap (λ s. s ∷ map (step_of (log ++ more)) rest) first ∙ ap (λ ss. step_of log c ∷ ss) others

-- a write
pub steps-write : (log more : List ℕ) (changes : List Change) (at from count : ℕ) → All (IsWithin (length log)) changes → from ≡ length log → count ≡ length more → steps_of (log ++ more) (changes ++ change.Written at from count ∷ []) ≡ Written at more ∷ steps_of log changes
unfolding steps_of
steps-write log more changes at from count h e f =
    steps-push (log ++ more) changes (change.Written at from count)
    ∙ ap (λ s. s ∷ reverse (map (step_of (log ++ more)) changes)) (ap (Written at) (ap (λ k. part_at (log ++ more) k count) e ∙ ap (λ k. part_at (log ++ more) (length log) k) f ∙ part-appended log more))
    ∙ ap (λ ss. Written at more ∷ reverse ss) (steps-longer log more changes h)

pub steps-none : (log : List ℕ) → steps_of log [] ≡ []
unfolding steps_of
steps-none log = refl

pub ruleset noting = (steps-push, steps-write, steps-none)
