-- A space's key goes from hand to the table of inodes and back.
use Rattle.std.proofs.Common.{◌≡◌, ◌≢◌, ℕ, ◌+◌, ◌≤◌, List, ◌∷◌, refl, ap, sym, subst, ◌∙◌, ⊎_elim, arith, Bool, true, false}
use Rattle.std.specs.Option.{IsSome}
use Rattle.std.proofs.lemmas.Bool.{cases_eq}
use Rattle.kn_base.specs.declared.key.Key.{Key}
use Rattle.kernel_tables.specs.Kernel.{Kernel}
use Rattle.space_bank.specs.Shares.{Outside}
use Rattle.space_bank.specs.Laws.{and_outside}
use Rattle.space_bank.proofs.HandLaws.{handed-out}
use Rattle.forest.specs.Objects.{Object, NodeObject, names}
use Rattle.forest.specs.Walks.{space_key}
use Rattle.forest.specs.Forest.{IsRoot, Held}
use Rattle.forest.specs.Changes.{and_outside as and_outside_trees}
use Rattle.forest.proofs.CountLaws.{true-names}
use Rattle.forest.proofs.ExactLaws.{bit, in_hand-cons}
use Rattle.forest.proofs.HeldLaws.{not_key, hand_out_keeps_held, hand_in_keeps_held}
use Rattle.forest.proofs.ReleaseLaws.{is_or_not}
use Rattle.kernel_forest.specs.Trees.{forest_of, outside_trees, TreesGood}
use Rattle.kernel_forest.proofs.Outside.{space_out}
use Rattle.file_tables.specs.Roots.{named_by}
use Rattle.file_tables.specs.Laws.{SpaceOutOfHand, SpaceInHand, RootOutOfHand, RootInHand}
use Rattle.file_tables.proofs.RootLaws.{handed_over, handed_back}

bit_few : (b : Bool) → bit b ≤ 1
bit_few true = omega arith
bit_few false = omega arith

-- what names an object from outside, with the key of a space more
more_space : (kernel : Kernel) (outside : Outside) (space : ℕ) (object : Object) → 15 ≤ space
    → outside_trees kernel (and_outside outside (space_key space)) object ≡ outside_trees kernel outside object + bit (names object (space_key space))
unfolding and_outside_trees
more_space kernel outside space object high = ap (λ (out : Object → ℕ). out object) (space_out kernel outside space high)

-- what is in hand is not outside
none_out : (kernel : Kernel) (outside : Outside) (hand : List Key) (space : ℕ) → TreesGood kernel outside (space_key space ∷ hand) → outside_trees kernel outside (NodeObject space) ≡ 0
none_out kernel outside hand space trees = ⊎_elim
    (λ (t : outside_trees kernel outside (NodeObject space) ≡ 0). t)
    (λ (t : outside_trees kernel outside (NodeObject space) ≢ 0).
    let none = (trees.held.apart (NodeObject space) (omega arith)).1 in
    let cons = in_hand-cons (space_key space) hand (NodeObject space) in
    let one : bit (names (NodeObject space) (space_key space)) ≡ 1 = ap bit (true-names (NodeObject space) (space_key space) refl) in
    absurd (omega arith))
    (cases_eq (outside_trees kernel outside (NodeObject space)) 0)

pub out_of_hand : SpaceOutOfHand
out_of_hand kernel outside hand space high once root trees = record {
  shares = (handed-out kernel outside hand (space_key space)).0 trees.shares;
  held =
      subst (λ o. Held (forest_of kernel) o hand) (sym (space_out kernel outside space high))
      (hand_out_keeps_held (forest_of kernel) (outside_trees kernel outside) hand (space_key space) (NodeObject space) trees.held refl once
      (λ node same. subst (IsRoot (forest_of kernel).keys) (let is : space ≡ node = cc in is) root));
  in_hand = trees.in_hand.1;
  short = let s = trees.short in omega arith;
  in_trees = trees.in_trees;
  single = λ object some.
      let more = more_space kernel outside space object high in
      ⊎_elim
      (λ (t : object ≡ NodeObject space).
      let none : outside_trees kernel outside object ≡ 0 = ap (outside_trees kernel outside) t ∙ none_out kernel outside hand space trees in
      let one : bit (names object (space_key space)) ≤ 1 = bit_few (names object (space_key space)) in
      omega arith)
      (λ (t : object ≢ NodeObject space).
      let no : bit (names object (space_key space)) ≡ 0 = ap bit (not_key (space_key space) (NodeObject space) object refl t) in
      let one = trees.single object some in
      omega arith)
      (is_or_not object (NodeObject space));
}

pub in_hand_again : SpaceInHand
in_hand_again kernel outside hand space high owned few trees =
    let held : Held (forest_of kernel) (and_outside_trees (outside_trees kernel outside) (space_key space)) hand =
    subst (λ o. Held (forest_of kernel) o hand) (space_out kernel outside space high) trees.held
    in
    let single : (object : Object) → IsSome ((forest_of kernel).owner object) → outside_trees kernel outside object + bit (names object (space_key space)) ≤ 1 =
    λ object some.
    let more = more_space kernel outside space object high in
    let one = trees.single object some in
    omega arith
    in
    let none : outside_trees kernel outside (NodeObject space) ≡ 0 =
    let s = single (NodeObject space) owned in
    let one : bit (names (NodeObject space) (space_key space)) ≡ 1 = ap bit (true-names (NodeObject space) (space_key space) refl) in
    omega arith
    in
    record {
      shares = (handed-out kernel outside hand (space_key space)).1 trees.shares;
      held = hand_in_keeps_held (forest_of kernel) (outside_trees kernel outside) hand (space_key space) (NodeObject space) held refl none owned;
      in_hand = (tt, trees.in_hand);
      short = omega arith;
      in_trees = trees.in_trees;
      single = λ object some. let s = single object some in omega arith;
    }

pub root_out : RootOutOfHand
root_out old new number row hand space e roots none key high once root trees =
    handed_over old new number row hand e roots none
    (subst (λ k. TreesGood old (and_outside (named_by old.inodes) k) hand) (sym key)
    (out_of_hand old (named_by old.inodes) hand space high once root trees))

pub root_in : RootInHand
root_in old new number row hand space e roots key none high owned few trees =
    in_hand_again new (named_by new.inodes) hand space high (subst (λ (kernel : Kernel). IsSome ((forest_of kernel).owner (NodeObject space))) (sym e) owned) few
    (subst (λ k. TreesGood new (and_outside (named_by new.inodes) k) hand) key
    (handed_back old new number row hand e roots none trees))
