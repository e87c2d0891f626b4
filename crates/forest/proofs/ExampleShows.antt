-- The laws, applied to the small forest.
use Rattle.std.proofs.Common.{◌≡◌, ◌≢◌, ◌<◌, ◌≤◌, ◌+◌, ◌/◌, ◌%◌, ap, None, ℕ, zero, suc, Bool, true, false, Some, [], ◌∷◌, refl, sym, ◌∙◌, arith, ⊎_elim, inl, inr, ◌&&◌}
use Rattle.std.specs.Option.{IsSome}
use Rattle.std.proofs.lemmas.Bool.{cases_eq, cases_lt, ne_eqb, and_parts, eq-eqb}
use Rattle.kn_base.specs.declared.key.Key.{Key}
use Rattle.kn_base.specs.declared.key.Key.TheVariants.{Null}
use Rattle.unix_model.specs.Tables.{at, with_at, count_below}
use Rattle.forest.specs.Objects.{Object, named, OfProcess, PageObject, NodeObject, with_object}
use Rattle.forest.specs.Walks.{place_of, key_below, space_key, digits, Mapping, map_of}
use Rattle.forest.specs.Forest.{Held, IsSpace, in_hand, node_way, NoPageOutside}
use Rattle.forest.specs.Changes.{and_outside, copied_count, filled, WithRoot}
use Rattle.forest.specs.Release.{shared, take_out, empty_node, Release, done, more}
use Rattle.forest.specs.Release.{page as given_page}
use Rattle.forest.specs.Labels.{IsIn, IsProcessSpace, is_process}
use Rattle.forest.specs.Example.{nothing_yet, one_space, one_outside, way_2, way_3, way_4, way_5, page_taken, one_page, second_root, child, child_raised, both_outside, way_7, way_8, way_9, way_10, private_taken, private, example, key_out, child_lowered, dropped, ExampleShows, unmapped, pruned, page_11}
use Rattle.forest.specs.Example.{shared as shared_forest}
use Rattle.forest.proofs.OwnLaws.{own_page_is_alone}
use Rattle.forest.proofs.OwnMaps.{write_changes_one_map}
use Rattle.forest.proofs.ExactLaws.{nobody_counted}
use Rattle.forest.proofs.MapLaws.{detach_keeps_maps, share_keeps_maps}
use Rattle.forest.proofs.CopyLaws.{free_unnamed}
use Rattle.forest.proofs.HeldLaws.{hand_in_keeps_held, raise_keeps_held, other_object}
use Rattle.forest.proofs.ReleaseLaws.{release_keeps_spaces, release_gives_unnamed}
use Rattle.forest.proofs.CallLaws.{call_changes_map, call_drops_space}
use Rattle.forest.proofs.RootLaws.{call_shares_space}
use Rattle.forest.proofs.PruneLaws.{prune_keeps_maps}
use Rattle.std.proofs.Math.Path.{fun_ext}
use Rattle.unix_model.proofs.TableLaws.{at-with_at-other}
use Rattle.forest.specs.Descent.{root, kept}
use Rattle.forest.specs.Calls.{ChangesMap, AddsSpace}
use Rattle.forest.proofs.LabelLaws.{taken_is_different}
use Rattle.forest.proofs.ExampleLaws.{space_of, example_holds, one_page_held, both_held, way_10_held}

is_null : Key → Bool
is_null Null = true
is_null _ = false

null_of : (key : Key) → is_null key ≡ true → key ≡ Null
unfolding is_null
null_of Null h = refl
null_of _ h = cc

all_null : (ℕ → Key) → ℕ → ℕ → Bool
all_null keys start zero = true
all_null keys start (suc n) = is_null (at keys (start + n)) && all_null keys start n

nulls : (keys : ℕ → Key) (start n : ℕ) → all_null keys start n ≡ true → (digit : ℕ) → digit < n → at keys (start + digit) ≡ Null
unfolding all_null
nulls keys start zero h digit below = absurd (omega arith)
nulls keys start (suc n) h digit below =
    let parts = and_parts (is_null (at keys (start + n))) (all_null keys start n) h in
    ⊎_elim
    (λ (t : digit < n). nulls keys start n parts.1 digit t)
    (λ (t : n ≤ digit). let e : digit ≡ n = omega arith in rw e (null_of (at keys (start + n)) parts.0))
    (cases_lt digit n)

none_outside : one_outside (NodeObject 6) ≡ 0
unfolding one_outside and_outside
none_outside = refl

-- the second space in hand
second_in_hand : Held example one_outside (space_key 6 ∷ [])
unfolding both_outside
second_in_hand = hand_in_keeps_held example one_outside [] (space_key 6) (NodeObject 6) example_holds.held refl none_outside example_holds.second.owned

dropped_release : Release example (space_key 6 ∷ []) dropped []
unfolding dropped child_lowered key_out example private private_taken way_10 way_9 way_8 way_7 both_outside shared_forest child_raised second_root one_page page_taken way_5 way_4 way_3 way_2 one_space nothing_yet one_outside at with_at with_object and_outside in_hand filled copied_count count_below all_null is_null
dropped_release =
    more (take_out (space_key 6) 6 1 refl refl (omega arith))
    (more (shared child (NodeObject 2) refl (omega arith))
    (more (empty_node (space_key 6) 6 refl refl (nulls child_lowered.keys 96 16 refl)) done))

other_maps : (other : ℕ) → IsSpace example [] other → other ≢ 1 → map_of (with_at example.keys 160 Null) other ≡ map_of example.keys other
unfolding node_way digits example private private_taken way_10 way_9 way_8 way_7 both_outside shared_forest child_raised second_root one_page page_taken way_5 way_4 way_3 way_2 one_space nothing_yet one_outside at with_at with_object and_outside in_hand filled copied_count count_below
other_maps other is apart =
    (write_changes_one_map example both_outside [] 1 0 10 Null example_holds.held.sound example_holds.held.exact example_holds.first (omega arith)
    (refl, (refl, (refl, (refl, tt)))) refl).1 other is apart

no_page_outside : NoPageOutside example both_outside
unfolding both_outside one_outside and_outside
no_page_outside page some = refl

few_pages : (page : ℕ) → IsSome (example.owner (PageObject page)) → page < 12
unfolding example private private_taken way_10 way_9 way_8 way_7 both_outside shared_forest child_raised second_root one_page page_taken way_5 way_4 way_3 way_2 one_space nothing_yet one_outside at with_at with_object and_outside in_hand filled copied_count count_below
few_pages page some = ⊎_elim
    (λ (t : page < 12). t)
    (λ (t : 12 ≤ page). absurd (
    let contra : false ≡ true = rw (ne_eqb page 11 (λ e. omega arith), ne_eqb page 7 (λ e. omega arith)) at some in cc))
    (cases_lt page 12)

both_spaces : (space : ℕ) → IsSpace example [] space → IsIn space (1 ∷ 6 ∷ [])
unfolding both_outside one_outside and_outside
both_spaces space is =
    let alive = example_holds.held.alive (NodeObject space) is.owned in
    let counted = example_holds.held.exact.counted (NodeObject space) is.owned in
    let places = nobody_counted example (NodeObject space) is.unnamed in
    let hand = is.not_in_hand in
    ⊎_elim
    (λ (t : space ≡ 1). inl t)
    (λ (t : space ≢ 1). ⊎_elim
    (λ (u : space ≡ 6). inr (inl u))
    (λ (u : space ≢ 6). absurd (
    let none = rw (ne_eqb space 1 t, ne_eqb space 6 u) at counted in omega arith))
    (cases_eq space 6))
    (cases_eq space 1)

listed : (space : ℕ) → IsIn space (1 ∷ 6 ∷ []) → IsProcessSpace example space
unfolding example private private_taken way_10 way_9 way_8 way_7 both_outside shared_forest child_raised second_root one_page page_taken way_5 way_4 way_3 way_2 one_space nothing_yet one_outside at with_at with_object and_outside in_hand filled copied_count count_below
listed space h = ⊎_elim
    (λ (t : space ≡ 1). rw t (example_holds.first, refl))
    (λ (t : IsIn space (6 ∷ [])). ⊎_elim
    (λ (u : space ≡ 6). rw u (example_holds.second, refl))
    (λ (u : ⊥). absurd u) t)
    h

two_taken : count_below (λ page. is_process (example.owner (PageObject page))) 12 ≡ 2
unfolding example private private_taken way_10 way_9 way_8 way_7 both_outside shared_forest child_raised second_root one_page page_taken way_5 way_4 way_3 way_2 one_space nothing_yet one_outside at with_at with_object and_outside in_hand filled copied_count count_below
two_taken = refl

own_11 : (other page : ℕ) (found : Mapping) → IsSpace example [] other → map_of example.keys other page ≡ Some found → found.page ≡ 11 → (other ≡ 1) × (page ≡ 0)
own_11 other page found is h e =
    own_page_is_alone example both_outside [] 1 other 0 page (record { writable = true; page = 11 }) found example_holds.held.sound example_holds.held.exact
    example_holds.first is example_holds.own (λ z. omega arith) example_holds.own_page h e

taken_away : map_of (with_at example.keys 160 Null) 1 ≡ with_at (map_of example.keys 1) 0 None
unfolding node_way digits example private private_taken way_10 way_9 way_8 way_7 both_outside shared_forest child_raised second_root one_page page_taken way_5 way_4 way_3 way_2 one_space nothing_yet one_outside at with_at with_object and_outside in_hand filled copied_count count_below
taken_away =
    (write_changes_one_map example both_outside [] 1 0 10 Null example_holds.held.sound example_holds.held.exact example_holds.first (omega arith)
    (refl, (refl, (refl, (refl, tt)))) refl).0

detached : map_of (with_at way_10.keys 144 Null) 1 ≡ map_of way_10.keys 1
unfolding all_null is_null example private private_taken way_10 way_9 way_8 way_7 both_outside shared_forest child_raised second_root one_page page_taken way_5 way_4 way_3 way_2 one_space nothing_yet one_outside at with_at with_object and_outside in_hand filled copied_count count_below
detached = detach_keeps_maps way_10.keys 144 10 refl (nulls way_10.keys 160 16 refl) 1

third_root : map_of (filled example.keys 12 (key_below example.keys (space_key 1))) 12 ≡ map_of example.keys 1
unfolding example private private_taken way_10 way_9 way_8 way_7 both_outside shared_forest child_raised second_root one_page page_taken way_5 way_4 way_3 way_2 one_space nothing_yet one_outside at with_at with_object and_outside in_hand filled copied_count count_below
third_root = (share_keeps_maps example.keys (key_below example.keys (space_key 1)) 12 1
    (free_unnamed example example_holds.held.sound (NodeObject 12) refl) (λ e. omega arith) (λ digit small. refl)).0

-- the first space while the second one is in hand
first_is : IsSpace example (space_key 6 ∷ []) 1
unfolding one_outside and_outside
first_is = space_of example one_outside (space_key 6 ∷ []) 1 second_in_hand example_holds.first.owned (omega arith)

root_given : dropped.owner (NodeObject 6) ≡ None
unfolding dropped with_object
root_given = refl

child_owned : IsSome (example.owner (NodeObject 2))
unfolding example private private_taken way_10 way_9 way_8 way_7 both_outside shared_forest child_raised second_root one_page page_taken way_5 way_4 way_3 way_2 one_space nothing_yet one_outside at with_at with_object and_outside in_hand filled copied_count count_below
child_owned = refl

child_stays : IsSome (dropped.owner (NodeObject 2))
unfolding dropped child_lowered key_out example private private_taken way_10 way_9 way_8 way_7 both_outside shared_forest child_raised second_root one_page page_taken way_5 way_4 way_3 way_2 one_space nothing_yet one_outside at with_at with_object and_outside in_hand filled copied_count count_below
child_stays = refl

-- keys of which those of one node have changed
filled_self : (keys new : ℕ → Key) (node : ℕ) → ((place : ℕ) → place / 16 ≢ node → at new place ≡ at keys place)
    → new ≡ filled keys node (λ digit. at new (place_of node digit))
unfolding at filled
filled_self keys new node same = fun_ext (λ place. ⊎_elim
    (λ (t : place / 16 ≡ node).
    let split : place_of node (place % 16) ≡ place = omega arith in
    rw (eq-eqb (place / 16) node t, split) refl)
    (λ (t : place / 16 ≢ node). rw (ne_eqb (place / 16) node t) (same place t))
    (cases_eq (place / 16) node))

below_8 : (P : ℕ → Type 0) → P 0 → P 1 → P 2 → P 3 → P 4 → P 5 → P 6 → P 7 → (digit : ℕ) → digit < 8 → P digit
below_8 P a b c d e f g h zero small = a
below_8 P a b c d e f g h (suc zero) small = b
below_8 P a b c d e f g h (suc (suc zero)) small = c
below_8 P a b c d e f g h (suc (suc (suc zero))) small = d
below_8 P a b c d e f g h (suc (suc (suc (suc zero)))) small = e
below_8 P a b c d e f g h (suc (suc (suc (suc (suc zero))))) small = f
below_8 P a b c d e f g h (suc (suc (suc (suc (suc (suc zero)))))) small = g
below_8 P a b c d e f g h (suc (suc (suc (suc (suc (suc (suc zero))))))) small = h
below_8 P a b c d e f g h (suc (suc (suc (suc (suc (suc (suc (suc digit)))))))) small = absurd (omega arith)

root_keys : ℕ → Key
root_keys digit = at shared_forest.keys (place_of 6 digit)

shared_elsewhere : (place : ℕ) → place ≢ 97 → at shared_forest.keys place ≡ at one_page.keys place
unfolding shared_forest child_raised second_root
shared_elsewhere place apart = at-with_at-other one_page.keys 97 place child apart

no_key_6 : (digit : ℕ) → digit < 16 → at one_page.keys (place_of 6 digit) ≡ Null
unfolding example private private_taken way_10 way_9 way_8 way_7 both_outside shared_forest child_raised second_root one_page page_taken way_5 way_4 way_3 way_2 one_space nothing_yet one_outside at with_at with_object and_outside in_hand filled copied_count count_below
no_key_6 digit below =
    let is : place_of 6 digit / 16 ≡ 6 = omega arith in
    one_page_held.sound.masked (place_of 6 digit) (ap (λ n. one_page.owner (NodeObject n)) is)

shared_owners : (object : Object) → object ≢ NodeObject 6 → shared_forest.owner object ≡ one_page.owner object
unfolding shared_forest child_raised second_root
shared_owners object differs = other_object one_page.owner (NodeObject 6) (Some OfProcess) object differs

second_added : WithRoot one_page shared_forest 6 root_keys
unfolding root_keys example private private_taken way_10 way_9 way_8 way_7 both_outside shared_forest child_raised second_root one_page page_taken way_5 way_4 way_3 way_2 one_space nothing_yet one_outside at with_at with_object and_outside in_hand filled copied_count count_below
second_added = record {
  was_free = refl;
  now_owned = refl;
  same_owners = shared_owners;
  keys = filled_self one_page.keys shared_forest.keys 6 (λ place apart. shared_elsewhere place (λ e. apart (omega arith)));
  rest = λ digit large below. ap named (shared_elsewhere (place_of 6 digit) (λ e. omega arith) ∙ no_key_6 digit below);
}

same_children : (digit : ℕ) → digit < 8 → root_keys digit ≡ at one_page.keys (place_of 1 digit)
unfolding root_keys example private private_taken way_10 way_9 way_8 way_7 both_outside shared_forest child_raised second_root one_page page_taken way_5 way_4 way_3 way_2 one_space nothing_yet one_outside at with_at with_object and_outside in_hand filled copied_count count_below
same_children = below_8 (λ digit. root_keys digit ≡ at one_page.keys (place_of 1 digit)) refl refl refl refl refl refl refl refl

call_shares : AddsSpace one_page shared_forest 6 (map_of one_page.keys 1)
unfolding both_outside
call_shares = call_shares_space one_outside 1 6 one_page shared_forest root_keys one_page_held.sound both_held second_added (λ e. omega arith) same_children

call_unmaps : ChangesMap example unmapped 1 (with_at (map_of example.keys 1) 0 None)
unfolding unmapped node_way digits example private private_taken way_10 way_9 way_8 way_7 both_outside shared_forest child_raised second_root one_page page_taken way_5 way_4 way_3 way_2 one_space nothing_yet one_outside at with_at with_object and_outside in_hand filled copied_count count_below
call_unmaps =
    let with_null : Held example both_outside (Null ∷ []) = raise_keeps_held example both_outside [] Null example_holds.held
    (λ object h. absurd (let contra : None ≡ Some object = h in cc)) in
    (call_changes_map both_outside 1 OfProcess example example unmapped 0 10 Null 0 with_null example_holds.first refl (omega arith) tt
    (λ object h. absurd (let contra : None ≡ Some object = h in cc))
    (kept 0 (kept 0 (kept 0 (kept 0 root refl) refl) refl) refl) refl
    (more (given_page page_11 11 refl refl) done)).1

held_pruned : Held pruned both_outside []
unfolding pruned all_null is_null example private private_taken way_10 way_9 way_8 way_7 both_outside shared_forest child_raised second_root one_page page_taken way_5 way_4 way_3 way_2 one_space nothing_yet one_outside at with_at with_object and_outside in_hand filled copied_count count_below
held_pruned = (prune_keeps_maps way_10 both_outside [] 144 10 way_10_held refl refl (nulls way_10.keys 160 16 refl)).0

once_6 : example.count (NodeObject 6) ≡ 1
unfolding example private private_taken way_10 way_9 way_8 way_7 both_outside shared_forest child_raised second_root one_page page_taken way_5 way_4 way_3 way_2 one_space nothing_yet one_outside at with_at with_object and_outside in_hand filled copied_count count_below
once_6 = refl

pub example_shows : ExampleShows
example_shows =
    let released = release_keeps_spaces example dropped one_outside (space_key 6 ∷ []) [] second_in_hand dropped_release in
    record {
      alone = own_11;
      taken_away = taken_away;
      other_stays = other_maps 6 example_holds.second (λ e. omega arith);
      detached = detached;
      third_root = third_root;
      held_dropped = released.0;
      first_stays = (released.1 1 first_is).1;
      root_given = root_given;
      call_shares = call_shares;
      call_unmaps = call_unmaps;
      held_pruned = held_pruned;
      call_drops = (call_drops_space one_outside 6 example dropped second_in_hand once_6 dropped_release).1;
      child_named = (release_gives_unnamed example dropped one_outside (space_key 6 ∷ []) [] second_in_hand dropped_release (NodeObject 2) child_owned).0 child_stays;
      two_pages = sym (taken_is_different example both_outside 12 (1 ∷ 6 ∷ []) example_holds.held no_page_outside few_pages
          (λ space. (listed space, λ is. both_spaces space is.0))) ∙ two_taken;
    }
