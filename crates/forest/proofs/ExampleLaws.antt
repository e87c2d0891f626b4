-- The small forest is made by steps that the laws speak of, so that each law's premises are met.
use Rattle.std.proofs.Common.{◌≡◌, ◌<◌, ◌≤◌, ◌/◌, ℕ, true, false, Some, None, List, [], ◌∷◌, refl, ap, arith}
use Rattle.std.specs.Option.{is_some, IsSome}
use Rattle.kn_base.specs.declared.key.Key.{Key}
use Rattle.kn_base.specs.declared.key.Key.TheVariants.{Null}
use Rattle.unix_model.specs.Tables.{at, with_at, count_below}
use Rattle.forest.specs.Objects.{Object, PageObject, NodeObject, OfProcess, named, with_object}
use Rattle.forest.specs.Walks.{place_of, space_key, page_way, digits, map_of}
use Rattle.forest.specs.Forest.{Forest, Held, IsSpace, IsRoot, NobodyNames, in_hand, node_way}
use Rattle.forest.specs.Changes.{and_outside, copied_count, filled, MayStand, BelongsAt}
use Rattle.forest.specs.Descent.{MadeOwn, root, copied}
use Rattle.forest.specs.Example.{nothing_yet, one_space, one_outside, way_2, way_3, way_4, way_5, page_taken, page_7, one_page, second_root, child, child_raised, shared, both_outside, way_7, way_8, way_9, way_10, private_taken, page_11, private, blank, example, ExampleHolds}
use Rattle.forest.proofs.HeldLaws.{take_keeps_held, raise_keeps_held, hand_out_keeps_held}
use Rattle.forest.proofs.WriteHeld.{write_keeps_held, written_root}
use Rattle.forest.proofs.CopyLaws.{free_unnamed}
use Rattle.forest.proofs.DescentLaws.{makes_way_own, page_may_stand}
use Rattle.forest.proofs.ReleaseLaws.{drop_null}

nothing_held : Held nothing_yet (λ object. 0) []
unfolding nothing_yet at in_hand
nothing_held = record {
  counts = record {
    sound = record {
      within = λ node some. absurd (let contra : false ≡ true = some in cc);
      masked = λ place none. refl;
      owned = λ place object h. absurd (let contra : None ≡ Some object = h in cc);
      heights = λ place digit below. tt;
      low = λ place. omega arith;
    };
    exact = record { counted = λ object some. absurd (let contra : false ≡ true = some in cc) };
    alive = λ object some. absurd (let contra : false ≡ true = some in cc);
    gone = λ object none. refl;
    apart = λ object out. absurd (omega arith);
  };
  rooted = λ space is. absurd (let contra : false ≡ true = is.owned in cc);
}

one_space_held : Held one_space one_outside []
unfolding one_space one_outside nothing_yet at with_object in_hand
one_space_held =
    hand_out_keeps_held one_space (λ object. 0) [] (space_key 1) (NodeObject 1)
    (take_keeps_held nothing_yet (λ object. 0) [] (space_key 1) (NodeObject 1) OfProcess nothing_held refl
    (record { unowned = refl; none_outside = refl; none_in_hand = refl })
    (λ node e. let is : node ≡ 1 = cc in omega arith))
    refl refl
    (λ node e. record { parts = λ digit small. tt; unused = λ digit large small. refl; keeper = refl })

one_is_space : IsSpace one_space [] 1
unfolding one_space nothing_yet at with_object in_hand
one_is_space = record { owned = refl; unnamed = λ place h. let contra : None ≡ Some (NodeObject 1) = h in cc; not_in_hand = refl }

way_made : MadeOwn one_outside [] 1 OfProcess one_space (0 ∷ 0 ∷ 0 ∷ 1 ∷ []) way_5 4
unfolding one_space one_outside nothing_yet way_2 way_3 way_4 way_5 at with_at with_object in_hand filled copied_count count_below and_outside
way_made =
    copied 0 4 5
    (copied 0 3 4
    (copied 0 2 3
    (copied 1 1 2 root (λ h. h) refl (record { unowned = refl; none_outside = refl; none_in_hand = refl }) (omega arith))
    (λ h. h) refl (record { unowned = refl; none_outside = refl; none_in_hand = refl }) (omega arith))
    (λ h. h) refl (record { unowned = refl; none_outside = refl; none_in_hand = refl }) (omega arith))
    (λ h. h) refl (record { unowned = refl; none_outside = refl; none_in_hand = refl }) (omega arith)

-- a node that something outside names is a space
pub space_of : (forest : Forest) (outside : Object → ℕ) (hand : List Key) (space : ℕ) → Held forest outside hand
    → IsSome (forest.owner (NodeObject space)) → 1 ≤ outside (NodeObject space) → IsSpace forest hand space
space_of forest outside hand space held owned out =
    let apart = held.apart (NodeObject space) out in
    record { owned = owned; unnamed = apart.0; not_in_hand = apart.1 }

way_5_held : Held way_5 one_outside []
unfolding one_space nothing_yet with_object
way_5_held = (makes_way_own one_outside [] 1 OfProcess one_space way_5 (0 ∷ 0 ∷ 0 ∷ 1 ∷ []) 4 one_space_held one_is_space refl
    (omega arith, (omega arith, (omega arith, (omega arith, tt)))) (omega arith) (omega arith) way_made).held

page_taken_held : Held page_taken one_outside (page_7 ∷ [])
unfolding page_taken way_5 way_4 way_3 way_2 one_space nothing_yet one_outside with_object and_outside in_hand
page_taken_held = take_keeps_held way_5 one_outside [] page_7 (PageObject 7) OfProcess way_5_held refl
    (record { unowned = refl; none_outside = refl; none_in_hand = refl }) (λ node e. cc)

pub one_page_held : Held one_page one_outside []
unfolding one_page page_taken way_5 way_4 way_3 way_2 one_space nothing_yet one_outside at with_at with_object and_outside in_hand filled copied_count count_below node_way digits
one_page_held =
    let is = space_of page_taken one_outside (page_7 ∷ []) 1 page_taken_held refl (omega arith) in
    let may = page_may_stand page_taken one_outside (page_7 ∷ []) 1 65536 5 page_7 page_taken_held is (refl, (refl, (refl, (refl, tt)))) refl refl in
    let now : Held one_page one_outside (Null ∷ []) = write_keeps_held page_taken one_outside [] 80 page_7 page_taken_held may
    (record { same_owner = λ object h. ap page_taken.owner (let same : object ≡ PageObject 7 = cc in same); heights = λ digit below. tt }) in
    drop_null one_page one_outside [] now

second_root_held : Held second_root one_outside (space_key 6 ∷ [])
unfolding second_root one_page page_taken way_5 way_4 way_3 way_2 one_space nothing_yet one_outside at with_at with_object and_outside in_hand filled copied_count count_below
second_root_held = take_keeps_held one_page one_outside [] (space_key 6) (NodeObject 6) OfProcess one_page_held refl
    (record { unowned = refl; none_outside = refl; none_in_hand = refl }) (λ node e. let is : node ≡ 6 = cc in omega arith)

child_raised_held : Held child_raised one_outside (child ∷ space_key 6 ∷ [])
unfolding child_raised second_root one_page page_taken way_5 way_4 way_3 way_2 one_space nothing_yet one_outside at with_at with_object and_outside in_hand filled copied_count count_below
child_raised_held = raise_keeps_held second_root one_outside (space_key 6 ∷ []) child second_root_held
    (λ object h.
    let is : object ≡ NodeObject 2 = cc in
    (ap (λ o. is_some (second_root.owner o)) is, ap one_outside is))

nobody_names_6 : NobodyNames one_page.keys (NodeObject 6)
unfolding one_page page_taken way_5 way_4 way_3 way_2 one_space nothing_yet one_outside at with_at with_object and_outside in_hand filled copied_count count_below
nobody_names_6 = free_unnamed one_page one_page_held.sound (NodeObject 6) refl

root_6 : IsRoot one_page.keys 6
unfolding one_page page_taken way_5 way_4 way_3 way_2 one_space nothing_yet one_outside at with_at with_object and_outside in_hand filled copied_count count_below
root_6 = record {
  parts = λ digit small. rw (none digit (omega arith)) tt;
  unused = λ digit large small. none digit (omega arith);
  keeper = ap named (none 15 (omega arith));
}
  where
    none : (digit : ℕ) → digit < 16 → at one_page.keys (place_of 6 digit) ≡ Null
    none digit below =
        let is : place_of 6 digit / 16 ≡ 6 = omega arith in
        one_page_held.sound.masked (place_of 6 digit) (ap (λ n. one_page.owner (NodeObject n)) is)

same_number : (a b : ℕ) → NodeObject a ≡ NodeObject b → a ≡ b
same_number a b e = cc

shared_held : Held shared one_outside (space_key 6 ∷ [])
unfolding shared child_raised second_root one_page page_taken way_5 way_4 way_3 way_2 one_space nothing_yet one_outside at with_at with_object and_outside in_hand filled copied_count count_below
shared_held =
    let may : MayStand child_raised (child ∷ space_key 6 ∷ []) 97 child = record {
      node_owned = refl;
      low = omega arith;
      fits = λ upper h. absurd (nobody_names_6 upper h);
      not_itself = λ h. let same : NodeObject 2 ≡ NodeObject 6 = cc in let contra = same_number 2 6 same in omega arith;
      root = λ is. absurd (let contra : 1 ≡ 0 = is.not_in_hand in omega arith);
    } in
    let belongs : BelongsAt child_raised 97 child = record {
      same_owner = λ object h. ap child_raised.owner (let same : object ≡ NodeObject 2 = cc in same);
      heights = λ digit below. child_raised_held.sound.heights 17 digit below;
    } in
    let now : Held shared one_outside (Null ∷ space_key 6 ∷ []) = write_keeps_held child_raised one_outside (space_key 6 ∷ []) 97 child child_raised_held may belongs in
    drop_null shared one_outside (space_key 6 ∷ []) now

pub both_held : Held shared both_outside []
unfolding both_outside shared child_raised second_root one_page page_taken way_5 way_4 way_3 way_2 one_space nothing_yet one_outside at with_at with_object and_outside in_hand filled copied_count count_below
both_held = hand_out_keeps_held shared one_outside [] (space_key 6) (NodeObject 6) shared_held refl refl
    (λ node e.
    let is : node ≡ 6 = cc in
    rw is (written_root one_page.keys 97 child 6 root_6 (λ same. (omega arith, (omega arith, omega arith)))))

private_made : MadeOwn both_outside [] 1 OfProcess shared (0 ∷ 0 ∷ 0 ∷ 0 ∷ []) way_10 4
unfolding way_10 way_9 way_8 way_7 both_outside shared child_raised second_root one_page page_taken way_5 way_4 way_3 way_2 one_space nothing_yet one_outside at with_at with_object and_outside in_hand filled copied_count count_below
private_made =
    copied 0 9 10
    (copied 0 8 9
    (copied 0 7 8
    (copied 0 1 7 root (λ h. h) refl (record { unowned = refl; none_outside = refl; none_in_hand = refl }) (omega arith))
    (λ h. h) refl (record { unowned = refl; none_outside = refl; none_in_hand = refl }) (omega arith))
    (λ h. h) refl (record { unowned = refl; none_outside = refl; none_in_hand = refl }) (omega arith))
    (λ h. h) refl (record { unowned = refl; none_outside = refl; none_in_hand = refl }) (omega arith)

pub way_10_held : Held way_10 both_outside []
unfolding both_outside shared child_raised second_root one_page page_taken way_5 way_4 way_3 way_2 one_space nothing_yet one_outside at with_at with_object and_outside in_hand filled copied_count count_below
way_10_held = (makes_way_own both_outside [] 1 OfProcess shared way_10 (0 ∷ 0 ∷ 0 ∷ 0 ∷ []) 4 both_held
    (space_of shared both_outside [] 1 both_held refl (omega arith)) refl
    (omega arith, (omega arith, (omega arith, (omega arith, tt)))) (omega arith) (omega arith) private_made).held

private_taken_held : Held private_taken both_outside (page_11 ∷ [])
unfolding private_taken way_10 way_9 way_8 way_7 both_outside shared child_raised second_root one_page page_taken way_5 way_4 way_3 way_2 one_space nothing_yet one_outside at with_at with_object and_outside in_hand filled copied_count count_below
private_taken_held = take_keeps_held way_10 both_outside [] page_11 (PageObject 11) OfProcess way_10_held refl
    (record { unowned = refl; none_outside = refl; none_in_hand = refl }) (λ node e. cc)

private_held : Held private both_outside []
unfolding private private_taken way_10 way_9 way_8 way_7 both_outside shared child_raised second_root one_page page_taken way_5 way_4 way_3 way_2 one_space nothing_yet one_outside at with_at with_object and_outside in_hand filled copied_count count_below node_way digits
private_held =
    let is = space_of private_taken both_outside (page_11 ∷ []) 1 private_taken_held refl (omega arith) in
    let may = page_may_stand private_taken both_outside (page_11 ∷ []) 1 0 10 page_11 private_taken_held is (refl, (refl, (refl, (refl, tt)))) refl refl in
    let now : Held private both_outside (Null ∷ []) = write_keeps_held private_taken both_outside [] 160 page_11 private_taken_held may
    (record { same_owner = λ object h. ap private_taken.owner (let same : object ≡ PageObject 11 = cc in same); heights = λ digit below. tt }) in
    drop_null private both_outside [] now

example_held : Held example both_outside []
unfolding example private private_taken way_10 way_9 way_8 way_7 both_outside shared child_raised second_root one_page page_taken way_5 way_4 way_3 way_2 one_space nothing_yet one_outside at with_at with_object and_outside in_hand filled copied_count count_below node_way digits
example_held =
    let with_blank : Held private both_outside (blank ∷ []) = raise_keeps_held private both_outside [] blank private_held (λ object h. cc) in
    let is = space_of private both_outside (blank ∷ []) 1 with_blank refl (omega arith) in
    let may = page_may_stand private both_outside (blank ∷ []) 1 1 10 blank with_blank is (refl, (refl, (refl, (refl, tt)))) refl refl in
    let now : Held example both_outside (Null ∷ []) = write_keeps_held private both_outside [] 161 blank with_blank may
    (record { same_owner = λ object h. cc; heights = λ digit below. tt }) in
    drop_null example both_outside [] now

pub example_holds : ExampleHolds
unfolding example private private_taken way_10 way_9 way_8 way_7 both_outside shared child_raised second_root one_page page_taken way_5 way_4 way_3 way_2 one_space nothing_yet one_outside at with_at with_object and_outside in_hand filled copied_count count_below page_way digits map_of
example_holds = record {
  held = example_held;
  first = space_of example both_outside [] 1 example_held refl (omega arith);
  second = space_of example both_outside [] 6 example_held refl (omega arith);
  own = (refl, (refl, (refl, (refl, (refl, tt)))));
  own_page = refl;
  blank_page = refl;
  shared_first = refl;
  shared_second = refl;
  unmapped = refl;
  counted_twice = refl;
}
