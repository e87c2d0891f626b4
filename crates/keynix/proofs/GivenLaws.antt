-- Rows of a given schedule.
use Rattle.std.proofs.Common.{◌≡◌, ℕ, zero, suc, ◌<◌, true, false, List, [], ◌++◌, length, refl, sym, arith, drop, nat_eq}
use Rattle.std.specs.Prelude.{replicate}
use Rattle.std.proofs.lemmas.Bool.Decides.{nat_tests}
use Rattle.std.proofs.lemmas.List.{drop_all}
use Rattle.plan.specs.declared.span.Span.{Span}
use Rattle.plan.specs.Plans.{slots_of}
use Rattle.unix_model.specs.Schedule.{Given, is_spent, next_slot}
use Rattle.unix_model.specs.State.{Unix}

-- no turn is left
spent-none : (left next slot : ℕ) (spans : List Span) → left ≡ 0 → next ≡ length spans → is_spent (Given (replicate left slot ++ slots_of (drop next spans))) ≡ true
unfolding slots_of
spent-none left next slot spans none all =
    let behind : drop next spans ≡ [] = drop_all next spans (omega (arith, all)) in
    rw (none, behind) refl

-- where some are given, the row has one
pub given-some : (left next slot : ℕ) (spans : List Span) → (left ≡ 0 → next ≡ length spans) → is_spent (Given (replicate left slot ++ slots_of (drop next spans))) ≡ false → 0 < left
given-some zero next slot spans ended given = let spent : is_spent (Given (replicate zero slot ++ slots_of (drop next spans))) ≡ true = spent-none zero next slot spans refl (ended refl) in cc
given-some (suc left) next slot spans ended given = omega arith

-- the test of it
pub row-spent : (left next slot : ℕ) (spans : List Span) → (left ≡ 0 → next ≡ length spans) → nat_eq left 0 ≡ is_spent (Given (replicate left slot ++ slots_of (drop next spans)))
row-spent zero next slot spans ended = sym (spent-none zero next slot spans refl (ended refl))
row-spent (suc left) next slot spans ended = let some : nat_eq (suc left) 0 ≡ false = grind (arith, nat_tests) in some

-- where some are given, the next slot is that of the row
pub given-slot : (unix : Unix) (left next slot : ℕ) (spans : List Span) → (left ≡ 0 → next ≡ length spans) → is_spent (Given (replicate left slot ++ slots_of (drop next spans))) ≡ false
    → slot ≡ next_slot unix (Given (replicate left slot ++ slots_of (drop next spans)))
given-slot unix zero next slot spans ended given = let spent : is_spent (Given (replicate zero slot ++ slots_of (drop next spans))) ≡ true = spent-none zero next slot spans refl (ended refl) in cc
given-slot unix (suc left) next slot spans ended given = refl
