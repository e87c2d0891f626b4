-- A node that is copied at the end of an own way: all that was own on the way stays own.
use Rattle.std.proofs.Common.{◌≡◌, ◌≢◌, ◌<◌, ◌≤◌, ℕ, zero, suc, Bool, true, false, Option, Some, None, List, [], ◌∷◌, length, refl, ap, sym, ◌∙◌, arith, ⊎_elim}
use Rattle.std.specs.Option.{is_some, IsSome, IsSomeAnd}
use Rattle.std.proofs.lemmas.Bool.{cases_Bool}
use Rattle.kn_base.specs.declared.key.Key.{Key}
use Rattle.kn_base.specs.declared.key.Key.TheVariants.{Segment}
use Rattle.unix_model.specs.Tables.{at, count_below}
use Rattle.forest.specs.Objects.{Object, NodeObject, Owner, named, names, same_object, with_object}
use Rattle.forest.specs.Walks.{place_of, key_below, key_along, space_key, IsWay}
use Rattle.forest.specs.Forest.{Forest, Sound, Exact, IsSpace, NobodyNames, OwnWay, CountedOnce, EndsAt}
use Rattle.forest.specs.Changes.{with_fresh, with_copy, copied_count, IsFree}
use Rattle.forest.specs.Laws.{CopyMakesOwn}
use Rattle.forest.proofs.WalkLaws.{step}
use Rattle.forest.proofs.OwnLaws.{own_is_alone, owned_object}
use Rattle.forest.proofs.ExactLaws.{not_named, with_object-here}
use Rattle.forest.proofs.MapLaws.{node_key, Like, same, replaced, Fresh, fresh_is, like_along, not_the_node}

-- an object without an owner is named by nobody
pub free_unnamed : (forest : Forest) → Sound forest → (object : Object) → forest.owner object ≡ None
    → NobodyNames forest.keys object
free_unnamed forest sound object unowned place h =
    let some : is_some (forest.owner object) ≡ true = owned_object forest sound place object h in
    let none : is_some (forest.owner object) ≡ false = ap is_some unowned in
    let contra : true ≡ false = sym some ∙ none in cc

-- what a space reaches has an owner
pub end_owned : (forest : Forest) (hand : List Key) → Sound forest → (space : ℕ) → IsSpace forest hand space
    → (way : List ℕ) (object : Object) → EndsAt forest.keys space way object → IsSome (forest.owner object)
end_owned forest hand sound space is_space [] object ends =
    let is : NodeObject space ≡ object = cc in
    ap (λ o. is_some (forest.owner o)) (sym is) ∙ is_space.owned
end_owned forest hand sound space is_space (digit ∷ way) object ends =
    let s = step forest.keys (key_along forest.keys (space_key space) way) digit object ends in
    owned_object forest sound (place_of s.node digit) object s.here

-- the object that is counted once
pub record Once (forest : Forest) (key : Key) : Type 0 where
  pub object : Object
  pub names_it : named key ≡ Some object
  pub counted : forest.count object ≡ 1

once_of : (count : Object → ℕ) (there : Option Object) → IsSomeAnd there (λ object. count object ≡ 1) → (object : Object) × (there ≡ Some object) × (count object ≡ 1)
once_of count None h = absurd h
once_of count (Some object) h = (object, refl, h)

pub once : (forest : Forest) (key : Key) → CountedOnce forest key → Once forest key
once forest key h =
    let o = once_of forest.count (named key) h in
    record { object = o.0; names_it = o.1; counted = o.2 }

pub counted_once : (forest : Forest) (key : Key) (object : Object) → named key ≡ Some object → forest.count object ≡ 1 → CountedOnce forest key
counted_once forest key object e h = rw e h

pub none_below : (f : ℕ → Bool) (n : ℕ) → ((q : ℕ) → q < n → f q ≡ false) → count_below f n ≡ 0
unfolding count_below
none_below f zero h = refl
none_below f (suc n) h = let e = none_below f n (λ q less. h q (omega arith)) in rw (h n (omega arith)) (omega arith)

-- what is known where a node is copied
record Copying (forest : Forest) (outside : Object → ℕ) (hand : List Key) (space node digit fresh : ℕ) (way : List ℕ) : Type 0 where
  sound : Sound forest
  exact : Exact forest outside hand
  is_space : IsSpace forest hand space
  free : IsFree forest outside hand (NodeObject fresh)
  is_way : IsWay way
  below : digit < 16
  own : OwnWay forest space way
  ends : EndsAt forest.keys space way (NodeObject node)

module _ (forest : Forest) (outside : Object → ℕ) (hand : List Key) (space node digit fresh height : ℕ) (way : List ℕ) (owner : Owner)
    (c : Copying forest outside hand space node digit fresh way) where
  -- what an own way reaches is on no longer way
  longer : (w v : List ℕ) (object : Object) → IsWay w → OwnWay forest space w → EndsAt forest.keys space w object
      → IsWay v → EndsAt forest.keys space v object → length w < length v → ⊥
  longer w v object w_is own ends v_is v_ends less =
      let r = own_is_alone forest outside hand space space w v object c.sound c.exact c.is_space c.is_space w_is v_is own ends v_ends in
      let lengths : length v ≡ length w = ap length r.1 in
      omega arith

  at_place : key_along forest.keys (space_key space) (digit ∷ way) ≡ at forest.keys (place_of node digit)
  at_place = (node_key forest.keys (key_along forest.keys (space_key space) way) node c.ends).below digit

  nobody : NobodyNames forest.keys (NodeObject fresh)
  nobody = free_unnamed forest c.sound (NodeObject fresh) c.free.unowned

  not_fresh : (number : ℕ) → IsSome (forest.owner (NodeObject number)) → number ≢ fresh
  not_fresh number owned e =
      let none : is_some (forest.owner (NodeObject number)) ≡ false = ap (λ n. is_some (forest.owner (NodeObject n))) e ∙ ap is_some c.free.unowned in
      let contra : true ≡ false = sym owned ∙ none in cc

  is_fresh : Fresh forest.keys (with_fresh forest.keys (place_of node digit) fresh height) (place_of node digit) fresh (Segment (record { 0 = fresh }) height)
  is_fresh = fresh_is forest.keys (place_of node digit) fresh height nobody
      (λ e. not_fresh node (end_owned forest hand c.sound space c.is_space way (NodeObject node) c.ends) (let below = c.below in let is : node ≡ fresh = omega arith in is))

  keeps_like : (w : List ℕ) (object : Object) → IsWay w → OwnWay forest space w → EndsAt forest.keys space w object → length w ≤ length way
      → (b : Key) → Like fresh (at forest.keys (place_of node digit)) (Segment (record { 0 = fresh }) height) (key_along forest.keys (space_key space) w) b
      → b ≡ key_along forest.keys (space_key space) w
  keeps_like w object w_is own ends short b (same e off) = sym e
  keeps_like w object w_is own ends short b (replaced e g) =
      absurd (longer w (digit ∷ way) object w_is own ends (c.below, c.is_way) (ap named (at_place ∙ sym e) ∙ ends) (omega arith))

  keeps : (w : List ℕ) (object : Object) → IsWay w → OwnWay forest space w → EndsAt forest.keys space w object → length w ≤ length way
      → key_along (with_fresh forest.keys (place_of node digit) fresh height) (space_key space) w ≡ key_along forest.keys (space_key space) w
  keeps w object w_is own ends short =
      keeps_like w object w_is own ends short (key_along (with_fresh forest.keys (place_of node digit) fresh height) (space_key space) w)
      (like_along forest.keys (with_fresh forest.keys (place_of node digit) fresh height) (place_of node digit) fresh (Segment (record { 0 = fresh }) height) is_fresh
      (space_key space) (space_key space) (same refl (not_the_node space fresh (not_fresh space c.is_space.owned))) w w_is)

  keeps_count : (w : List ℕ) (object : Object) → IsWay w → OwnWay forest space w → EndsAt forest.keys space w object → length w ≤ length way
      → copied_count forest (place_of node digit) object ≡ forest.count object
  unfolding copied_count
  keeps_count w object w_is own ends short =
      let off : names object (at forest.keys (place_of node digit)) ≡ false = not_named (at forest.keys (place_of node digit)) object
      (λ h. longer w (digit ∷ way) object w_is own ends (c.below, c.is_way) (ap named at_place ∙ h) (omega arith)) in
      let none : count_below (λ d. names object (key_below forest.keys (at forest.keys (place_of node digit)) d)) 16 ≡ 0 =
      none_below (λ d. names object (key_below forest.keys (at forest.keys (place_of node digit)) d)) 16
      (λ d d_below. not_named (key_below forest.keys (at forest.keys (place_of node digit)) d) object
      (λ h. longer w (d ∷ digit ∷ way) object w_is own ends (d_below, (c.below, c.is_way))
      (ap (λ key. named (key_below forest.keys key d)) at_place ∙ h) (omega arith))) in
      rw (off, none) (omega arith)

  count_now : (object : Object) → copied_count forest (place_of node digit) object ≡ 1 → (with_copy forest (place_of node digit) fresh height owner).count object ≡ 1
  unfolding with_object
  count_now object h = ⊎_elim
      (λ (e : same_object object (NodeObject fresh) ≡ true). rw e refl)
      (λ (e : same_object object (NodeObject fresh) ≡ false). rw e h)
      (cases_Bool (same_object object (NodeObject fresh)))

  stays_own : (w : List ℕ) → IsWay w → OwnWay forest space w → length w ≤ length way
      → OwnWay (with_copy forest (place_of node digit) fresh height owner) space w
  stays_own [] w_is own short = tt
  stays_own (e ∷ w) w_is own short =
      let o = once forest (key_along forest.keys (space_key space) (e ∷ w)) own.0 in
      let key = keeps (e ∷ w) o.object w_is own o.names_it short in
      let count = keeps_count (e ∷ w) o.object w_is own o.names_it short in (
        counted_once (with_copy forest (place_of node digit) fresh height owner)
            (key_along (with_fresh forest.keys (place_of node digit) fresh height) (space_key space) (e ∷ w)) o.object
            (ap named key ∙ o.names_it) (count_now o.object (count ∙ o.counted)),
        stays_own w w_is.1 own.1 (omega arith),
      )

  key_now : key_along (with_fresh forest.keys (place_of node digit) fresh height) (space_key space) (digit ∷ way) ≡ Segment (record { 0 = fresh }) height
  key_now =
      ap (λ key. key_below (with_fresh forest.keys (place_of node digit) fresh height) key digit) (keeps way (NodeObject node) c.is_way c.own c.ends (omega arith))
      ∙ (node_key (with_fresh forest.keys (place_of node digit) fresh height) (key_along forest.keys (space_key space) way) node c.ends).below digit
      ∙ is_fresh.here

  now_own : OwnWay (with_copy forest (place_of node digit) fresh height owner) space (digit ∷ way)
  now_own = (
    counted_once (with_copy forest (place_of node digit) fresh height owner)
        (key_along (with_fresh forest.keys (place_of node digit) fresh height) (space_key space) (digit ∷ way)) (NodeObject fresh)
        (ap named key_now) (with_object-here (copied_count forest (place_of node digit)) (NodeObject fresh) 1),
    stays_own way c.is_way c.own (omega arith),
  )

pub copy_makes_own : CopyMakesOwn
copy_makes_own forest outside hand space node digit fresh height way owner sound exact is_space free is_way below own ends =
    let c : Copying forest outside hand space node digit fresh way = record {
      sound = sound;
      exact = exact;
      is_space = is_space;
      free = free;
      is_way = is_way;
      below = below;
      own = own;
      ends = ends;
    } in
    (now_own forest outside hand space node digit fresh height way owner c, ap named (key_now forest outside hand space node digit fresh height way owner c))
