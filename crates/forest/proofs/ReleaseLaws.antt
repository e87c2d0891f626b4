-- Releasing keys.
use Rattle.std.proofs.Common.{◌≡◌, ◌≢◌, ◌<◌, ◌≤◌, ◌+◌, ◌-◌, ◌*◌, ◌/◌, ◌%◌, ℕ, true, false, Option, Some, None, List, [], ◌∷◌, refl, ap, sym, ◌∙◌, arith, ⊎_elim, ◌⊎◌, inl, inr}
use Rattle.std.specs.Option.{is_some, IsSome}
use Rattle.std.proofs.lemmas.Bool.{cases_Bool, cases_eq}
use Rattle.kn_base.specs.declared.key.Key.{Key}
use Rattle.kn_base.specs.declared.key.Key.TheVariants.{Null, Page, Segment}
use Rattle.unix_model.specs.Tables.{at, with_at}
use Rattle.unix_model.proofs.TableLaws.{at-with_at, at-with_at-other}
use Rattle.forest.specs.Objects.{Object, PageObject, NodeObject, Owner, named, names, same_object, is_object, with_object}
use Rattle.forest.specs.Walks.{place_of, key_below, key_along, space_key, IsWay, page_way, mapping_of}
use Rattle.forest.specs.Forest.{Forest, Sound, IsSpace, NobodyNames, FitsBelow, FitsUnder, key_height, in_hand, namings, IsRoot, Counted, Held, IsFilled, NoneEmpty}
use Rattle.forest.specs.Changes.{with_count, with_key, counted_less, with_given}
use Rattle.forest.specs.Release.{ReleaseStep, nothing, shared, page, take_out, empty_node, Release, done, more}
use Rattle.forest.specs.Laws.{ReleaseKeepsSpaces, ReleaseGivesUnnamed, ReleaseGoesDown, ReleaseLeavesNoneEmpty}
use Rattle.forest.proofs.CountLaws.{same_object-same, same_object-true, true-names, counted_one}
use Rattle.forest.proofs.OwnLaws.{owned_object, place_within, way_of_page}
use Rattle.forest.proofs.ExactLaws.{bit, not_named, in_hand-cons, lower, write, nobody_counted, with_object-here, spaces_back}
use Rattle.forest.proofs.MapLaws.{same_map, stays_off, not_the_node}
use Rattle.forest.proofs.OwnMaps.{below_write}

lower_height : (height : ℕ) (lower : Key) (object : Object) → FitsUnder height lower → named lower ≡ Some object → key_height lower < height
lower_height height (Segment below low) object fits h = omega arith
lower_height height (Page p w) object fits h = omega arith
lower_height height _ object fits h = cc

pub release_goes_down : ReleaseGoesDown
release_goes_down keys (Segment node height) digit object fits h = lower_height height (at keys (place_of node.0 digit)) object fits h
release_goes_down keys _ digit object fits h = cc

pub some_not_none : {X : Type 0} (o : Option X) → IsSome o → o ≡ None → ⊥
some_not_none None h e = cc
some_not_none (Some x) h e = cc

pub none_or_some : {X : Type 0} (o : Option X) → (o ≡ None → ⊥) → IsSome o
none_or_some None h = absurd (h refl)
none_or_some (Some x) h = refl

-- the first key in hand is in hand
pub front : (key : Key) (hand : List Key) (object : Object) → named key ≡ Some object → 1 ≤ in_hand (key ∷ hand) object
front key hand object e =
    let held = in_hand-cons key hand object in
    let one : names object key ≡ true = true-names object key e in
    rw (held, one) (omega arith)

pub front_owned : (forest : Forest) (outside : Object → ℕ) (key : Key) (hand : List Key) → Counted forest outside (key ∷ hand) → (object : Object)
    → named key ≡ Some object → IsSome (forest.owner object)
front_owned forest outside key hand held object e =
    none_or_some (forest.owner object) (λ none. let some = front key hand object e in let gone = held.gone object none in omega arith)

-- what is known of an object in hand that is counted once
pub record LastKey (forest : Forest) (outside : Object → ℕ) (hand : List Key) (object : Object) : Type 0 where
  pub nobody : NobodyNames forest.keys object
  pub none_outside : outside object ≡ 0
  pub none_in_hand : in_hand hand object ≡ 0

pub unnamed : (forest : Forest) → Sound forest → (object : Object) → namings forest object ≡ 0 → NobodyNames forest.keys object
unfolding namings
unnamed forest sound object none place h =
    let one = counted_one (λ p. names object (at forest.keys p)) (16 * forest.nodes) place (place_within forest sound place object h)
    (true-names object (at forest.keys place) h) in
    omega arith

pub last_key : (forest : Forest) (outside : Object → ℕ) (key : Key) (hand : List Key) → Counted forest outside (key ∷ hand) → (object : Object)
    → named key ≡ Some object → forest.count object ≡ 1 → LastKey forest outside hand object
last_key forest outside key hand held object e once =
    let counted = held.exact.counted object (front_owned forest outside key hand held object e) in
    let cons = in_hand-cons key hand object in
    let one : names object key ≡ true = true-names object key e in
    let bit_one : bit (names object key) ≡ 1 = ap bit one in
    record {
      nobody = unnamed forest held.sound object (omega arith);
      none_outside = omega arith;
      none_in_hand = omega arith;
    }

-- what a step keeps
record StepKeeps (old new : Forest) (outside : Object → ℕ) (old_hand new_hand : List Key) : Type 0 where
  held : Counted new outside new_hand
  spaces : (space : ℕ) → IsSpace old old_hand space → IsSpace new new_hand space
  keys : (space : ℕ) → IsSpace old old_hand space → (way : List ℕ) → IsWay way
      → key_along new.keys (space_key space) way ≡ key_along old.keys (space_key space) way
  lost : (object : Object) → IsSome (old.owner object) → new.owner object ≡ None → outside object ≡ 0
  never : (object : Object) → old.owner object ≡ None → new.owner object ≡ None
  owners : (object : Object) → IsSome (new.owner object) → new.owner object ≡ old.owner object
  unnamed : (object : Object) → NobodyNames old.keys object → NobodyNames new.keys object
  filled : NoneEmpty old.keys → NoneEmpty new.keys

pub tail_hand : (key : Key) (hand : List Key) (object : Object) → in_hand (key ∷ hand) object ≡ 0 → in_hand hand object ≡ 0
tail_hand key hand object e = let cons = in_hand-cons key hand object in omega arith

pub no_name : (key : Key) (hand : List Key) (object : Object) → names object key ≡ false → in_hand (key ∷ hand) object ≡ in_hand hand object
no_name key hand object e =
    let cons = in_hand-cons key hand object in
    let zero_more : bit (names object key) ≡ 0 = ap bit e in
    omega arith

pub tail_space : (forest : Forest) (key : Key) (hand : List Key) (space : ℕ) → IsSpace forest (key ∷ hand) space → IsSpace forest hand space
tail_space forest key hand space is = record {
  owned = is.owned;
  unnamed = is.unnamed;
  not_in_hand = tail_hand key hand (NodeObject space) is.not_in_hand;
}

tail_apart : (forest : Forest) (outside : Object → ℕ) (key : Key) (hand : List Key) → Counted forest outside (key ∷ hand) → (object : Object) → 1 ≤ outside object
    → NobodyNames forest.keys object × (in_hand hand object ≡ 0)
tail_apart forest outside key hand held object out =
    let a = held.apart object out in (a.0, tail_hand key hand object a.1)

nothing_keeps : (forest : Forest) (outside : Object → ℕ) (key : Key) (hand : List Key) → Counted forest outside (key ∷ hand) → named key ≡ None
    → StepKeeps forest forest outside (key ∷ hand) hand
nothing_keeps forest outside key hand held none = record {
  held = record {
    sound = held.sound;
    exact = record {
      counted = λ object owned. held.exact.counted object owned
          ∙ ap (λ n. namings forest object + outside object + n) (no_name key hand object (ap (is_object object) none));
    };
    alive = held.alive;
    gone = λ object none. tail_hand key hand object (held.gone object none);
    apart = λ object out. tail_apart forest outside key hand held object out;
  };
  spaces = tail_space forest key hand;
  keys = λ space is way w. refl;
  lost = λ object some none. absurd (some_not_none (forest.owner object) some none);
  never = λ object none. none;
  owners = λ object some. refl;
  unnamed = λ object nobody. nobody;
  filled = λ none. none;
}

shared_keeps : (forest : Forest) (outside : Object → ℕ) (key : Key) (hand : List Key) (object : Object) → Counted forest outside (key ∷ hand)
    → named key ≡ Some object → 2 ≤ forest.count object
    → StepKeeps forest (with_count forest object (forest.count object - 1)) outside (key ∷ hand) hand
unfolding with_object
shared_keeps forest outside key hand object held e two = record {
  held = record {
    sound = record { within = held.sound.within; masked = held.sound.masked; owned = held.sound.owned; heights = held.sound.heights; low = held.sound.low };
    exact = rw (ap (counted_less forest) e) at (lower forest outside hand key held.exact);
    alive = λ other owned. ⊎_elim
        (λ (t : same_object other object ≡ true). rw t (omega arith))
        (λ (t : same_object other object ≡ false). rw t (held.alive other owned))
        (cases_Bool (same_object other object));
    gone = λ other none. tail_hand key hand other (held.gone other none);
    apart = λ other out. tail_apart forest outside key hand held other out;
  };
  spaces = λ space is. record { owned = is.owned; unnamed = is.unnamed; not_in_hand = tail_hand key hand (NodeObject space) is.not_in_hand };
  keys = λ space is way w. refl;
  lost = λ other some none. absurd (some_not_none (forest.owner other) some none);
  never = λ other none. none;
  owners = λ other some. refl;
  unnamed = λ other nobody. nobody;
  filled = λ none. none;
}

same_owner : (forest : Forest) (object other : Object) → other ≢ object → (with_given forest object).owner other ≡ forest.owner other
unfolding with_object
same_owner forest object other differs = ⊎_elim
    (λ (t : same_object other object ≡ true). absurd (differs (same_object-true other object t)))
    (λ (t : same_object other object ≡ false). rw t refl)
    (cases_Bool (same_object other object))

same_count : (forest : Forest) (object other : Object) → other ≢ object → (with_given forest object).count other ≡ forest.count other
unfolding with_object
same_count forest object other differs = ⊎_elim
    (λ (t : same_object other object ≡ true). absurd (differs (same_object-true other object t)))
    (λ (t : same_object other object ≡ false). rw t refl)
    (cases_Bool (same_object other object))

pub is_or_not : (a b : Object) → (a ≡ b) ⊎ (a ≢ b)
is_or_not a b = ⊎_elim
    (λ (t : same_object a b ≡ true). inl (same_object-true a b t))
    (λ (t : same_object a b ≡ false). inr (λ (e : a ≡ b). absurd (let yes_same : true ≡ false = sym (same_object-same b) ∙ (rw e at t) in cc)))
    (cases_Bool (same_object a b))

given_namings : (forest : Forest) (object other : Object) → namings (with_given forest object) other ≡ namings forest other
unfolding namings
given_namings forest object other = refl

-- an object in hand that is counted once is given back, where no key stands in it
given_keeps : (forest : Forest) (outside : Object → ℕ) (key : Key) (hand : List Key) (object : Object) → Counted forest outside (key ∷ hand)
    → named key ≡ Some object → forest.count object ≡ 1
    → ((place : ℕ) → NodeObject (place / 16) ≡ object → at forest.keys place ≡ Null)
    → StepKeeps forest (with_given forest object) outside (key ∷ hand) hand
given_keeps forest outside key hand object held e once empty =
    let last = last_key forest outside key hand held object e once in
    let owned = front_owned forest outside key hand held object e in
    let none_now : (with_given forest object).owner object ≡ None = with_object-here forest.owner object None in
    record {
      held = record {
        sound = record {
          within = λ node some. held.sound.within node (⊎_elim
              (λ (t : NodeObject node ≡ object). ap (λ o. is_some (forest.owner o)) t ∙ owned)
              (λ (t : NodeObject node ≢ object). ap is_some (sym (same_owner forest object (NodeObject node) t)) ∙ some)
              (is_or_not (NodeObject node) object));
          masked = λ place none. ⊎_elim
              (λ (t : NodeObject (place / 16) ≡ object). empty place t)
              (λ (t : NodeObject (place / 16) ≢ object). held.sound.masked place (sym (same_owner forest object (NodeObject (place / 16)) t) ∙ none))
              (is_or_not (NodeObject (place / 16)) object);
          owned = λ place other h.
              same_owner forest object other (λ t. last.nobody place (h ∙ ap Some t))
              ∙ held.sound.owned place other h
              ∙ sym (same_owner forest object (NodeObject (place / 16)) (λ t.
              let null : named Null ≡ Some other = ap named (sym (empty place t)) ∙ h in let contra : None ≡ Some other = null in cc));
          heights = held.sound.heights;
          low = held.sound.low;
        };
        exact = record {
          counted = λ other some. ⊎_elim
              (λ (t : other ≡ object). absurd (some_not_none ((with_given forest object).owner other) some (ap (with_given forest object).owner t ∙ none_now)))
              (λ (t : other ≢ object).
              let was = held.exact.counted other (ap is_some (sym (same_owner forest object other t)) ∙ some) in
              let differs : names other key ≡ false = not_named key other (λ h. let same_some : Some other ≡ Some object = sym h ∙ e in t (let is : other ≡ object = cc in is)) in
              let tail = no_name key hand other differs in
              let count = same_count forest object other t in
              let namings_same = given_namings forest object other in
              omega arith)
              (is_or_not other object);
        };
        alive = λ other some. ⊎_elim
            (λ (t : other ≡ object). absurd (some_not_none ((with_given forest object).owner other) some (ap (with_given forest object).owner t ∙ none_now)))
            (λ (t : other ≢ object). rw (same_count forest object other t) (held.alive other (ap is_some (sym (same_owner forest object other t)) ∙ some)))
            (is_or_not other object);
        gone = λ other none. ⊎_elim
            (λ (t : other ≡ object). ap (in_hand hand) t ∙ last.none_in_hand)
            (λ (t : other ≢ object). tail_hand key hand other (held.gone other (sym (same_owner forest object other t) ∙ none)))
            (is_or_not other object);
        apart = λ other out. tail_apart forest outside key hand held other out;
      };
      spaces = λ space is. record {
        owned = ap is_some (same_owner forest object (NodeObject space) (λ t.
            let some_front = front key hand object e in
            let none_front : in_hand (key ∷ hand) object ≡ 0 = ap (in_hand (key ∷ hand)) (sym t) ∙ is.not_in_hand in
            omega arith)) ∙ is.owned;
        unnamed = is.unnamed;
        not_in_hand = tail_hand key hand (NodeObject space) is.not_in_hand;
      };
      keys = λ space is way w. refl;
      lost = λ other some none. ⊎_elim
          (λ (t : other ≡ object). ap outside t ∙ last.none_outside)
          (λ (t : other ≢ object). absurd (some_not_none (forest.owner other) some (sym (same_owner forest object other t) ∙ none)))
          (is_or_not other object);
      owners = λ other some. ⊎_elim
          (λ (t : other ≡ object). absurd (some_not_none ((with_given forest object).owner other) some (ap (with_given forest object).owner t ∙ none_now)))
          (λ (t : other ≢ object). same_owner forest object other t)
          (is_or_not other object);
      unnamed = λ other nobody. nobody;
      filled = λ none. none;
      never = λ other none. ⊎_elim
          (λ (t : other ≡ object). ap (with_given forest object).owner t ∙ none_now)
          (λ (t : other ≢ object). same_owner forest object other t ∙ none)
          (is_or_not other object);
    }

-- keys with Null at a place
pub taken_named : (keys : ℕ → Key) (place p : ℕ) (object : Object) → named (at (with_at keys place Null) p) ≡ Some object → named (at keys p) ≡ Some object
taken_named keys place p object h = ⊎_elim
    (λ (t : p ≡ place). absurd (let null : named Null ≡ Some object = ap named (sym (at-with_at keys place Null)) ∙ ap (λ q. named (at (with_at keys place Null) q)) (sym t) ∙ h in cc))
    (λ (t : p ≢ place). ap named (sym (at-with_at-other keys place p Null t)) ∙ h)
    (cases_eq p place)

pub fits_null : (upper : Key) → FitsBelow upper Null
fits_null (Segment node height) = tt
fits_null _ = tt

taken_fits : (keys : ℕ → Key) (place digit : ℕ) (upper : Key) → FitsBelow upper (key_below keys upper digit) → FitsBelow upper (key_below (with_at keys place Null) upper digit)
taken_fits keys place digit (Segment node height) fits = ⊎_elim
    (λ (t : place_of node.0 digit ≡ place). rw (t, at-with_at keys place Null) tt)
    (λ (t : place_of node.0 digit ≢ place). rw (at-with_at-other keys place (place_of node.0 digit) Null t) fits)
    (cases_eq (place_of node.0 digit) place)
taken_fits keys place digit _ fits = tt

taken_sound : (forest : Forest) → Sound forest → (place : ℕ) → Sound (with_key forest place Null)
taken_sound forest sound place = record {
  within = sound.within;
  masked = λ p none. ⊎_elim
      (λ (t : p ≡ place). ap (at (with_at forest.keys place Null)) t ∙ at-with_at forest.keys place Null)
      (λ (t : p ≢ place). at-with_at-other forest.keys place p Null t ∙ sound.masked p none)
      (cases_eq p place);
  owned = λ p object h. sound.owned p object (taken_named forest.keys place p object h);
  heights = λ p digit below. ⊎_elim
      (λ (t : p ≡ place). rw (t, at-with_at forest.keys place Null) tt)
      (λ (t : p ≢ place). rw (at-with_at-other forest.keys place p Null t) (taken_fits forest.keys place digit (at forest.keys p) (sound.heights p digit below)))
      (cases_eq p place);
  low = λ p. ⊎_elim
      (λ (t : p ≡ place). rw (t, at-with_at forest.keys place Null) (omega arith))
      (λ (t : p ≢ place). rw (at-with_at-other forest.keys place p Null t) (sound.low p))
      (cases_eq p place);
}

-- a walk from elsewhere doesn't see what is taken out of a node that nobody names
taken_along : (keys : ℕ → Key) (node digit : ℕ) → digit < 16 → NobodyNames keys (NodeObject node) → (space : ℕ) → space ≢ node
    → (way : List ℕ) → IsWay way → key_along (with_at keys (place_of node digit) Null) (space_key space) way ≡ key_along keys (space_key space) way
taken_along keys node digit below nobody space apart [] w = refl
taken_along keys node digit below nobody space apart (d ∷ way) w =
    ap (λ upper. key_below (with_at keys (place_of node digit) Null) upper d) (taken_along keys node digit below nobody space apart way w.1)
    ∙ below_write keys (place_of node digit) Null (key_along keys (space_key space) way) d
    (λ m h same_place.
    let d_below = w.0 in
    let is : m ≡ node = omega arith in
    stays_off keys (NodeObject node) nobody (space_key space) (not_the_node space node apart) way (h ∙ ap (λ n. Some (NodeObject n)) is))

-- another node has still a key
taken_filled : (keys : ℕ → Key) (node digit : ℕ) → digit < 16 → (other : ℕ) → other ≢ node → IsFilled keys other → IsFilled (with_at keys (place_of node digit) Null) other
taken_filled keys node digit small other apart f =
    let below = f.1 in
    (f.0, f.1, λ e. f.2 (sym (at-with_at-other keys (place_of node digit) (place_of other f.0) Null (λ t. apart (let is : other ≡ node = omega arith in is))) ∙ e))

-- a key that is taken out of a node in hand
take_out_keeps : (forest : Forest) (outside : Object → ℕ) (key : Key) (hand : List Key) (node digit : ℕ) → Counted forest outside (key ∷ hand)
    → named key ≡ Some (NodeObject node) → forest.count (NodeObject node) ≡ 1 → digit < 16
    → StepKeeps forest (with_key forest (place_of node digit) Null) outside (key ∷ hand) (at forest.keys (place_of node digit) ∷ key ∷ hand)
take_out_keeps forest outside key hand node digit held e once below =
    let last = last_key forest outside key hand held (NodeObject node) e once in
    let owned = front_owned forest outside key hand held (NodeObject node) e in
    let within = held.sound.within node owned in
    let place : ℕ = place_of node digit in
    record {
      held = record {
        sound = taken_sound forest held.sound (place_of node digit);
        exact = write forest outside (key ∷ hand) (place_of node digit) Null (omega arith) (record {
          counted = λ object some. held.exact.counted object some
              ∙ ap (λ n. namings forest object + outside object + n) (sym (no_name Null (key ∷ hand) object refl));
        });
        alive = held.alive;
        gone = λ object none.
            no_name (at forest.keys (place_of node digit)) (key ∷ hand) object (not_named (at forest.keys (place_of node digit)) object
            (λ h. some_not_none (forest.owner object) (owned_object forest held.sound (place_of node digit) object h) none))
            ∙ held.gone object none;
        apart = λ object out.
            let a = held.apart object out in (
              λ p h. a.0 p (taken_named forest.keys (place_of node digit) p object h),
              no_name (at forest.keys (place_of node digit)) (key ∷ hand) object (not_named (at forest.keys (place_of node digit)) object (a.0 (place_of node digit))) ∙ a.1,
            );
      };
      spaces = λ space is. record {
        owned = is.owned;
        unnamed = λ p h. is.unnamed p (taken_named forest.keys (place_of node digit) p (NodeObject space) h);
        not_in_hand =
            no_name (at forest.keys (place_of node digit)) (key ∷ hand) (NodeObject space) (not_named (at forest.keys (place_of node digit)) (NodeObject space) (is.unnamed (place_of node digit)))
            ∙ is.not_in_hand;
      };
      keys = λ space is way w. taken_along forest.keys node digit below last.nobody space
          (λ t. let some_front = front key hand (NodeObject node) e in
          let none_front : in_hand (key ∷ hand) (NodeObject node) ≡ 0 = ap (λ n. in_hand (key ∷ hand) (NodeObject n)) (sym t) ∙ is.not_in_hand in
          omega arith) way w;
      lost = λ object some none. absurd (some_not_none (forest.owner object) some none);
      never = λ object none. none;
      owners = λ object some. refl;
      unnamed = λ object nobody p h. nobody p (taken_named forest.keys (place_of node digit) p object h);
      filled = λ none p m h. taken_filled forest.keys node digit below m (λ e. last.nobody p (taken_named forest.keys (place_of node digit) p (NodeObject m) h ∙ ap (λ n. Some (NodeObject n)) e)) (none p m (taken_named forest.keys (place_of node digit) p (NodeObject m) h));
    }

step_keeps : (old new : Forest) (outside : Object → ℕ) (old_hand new_hand : List Key) → ReleaseStep old old_hand new new_hand → Counted old outside old_hand
    → StepKeeps old new outside old_hand new_hand
step_keeps old new outside old_hand new_hand s held = go s held
  where
    go : {f g : Forest} {h k : List Key} → ReleaseStep f h g k → Counted f outside h → StepKeeps f g outside h k
    go (nothing {forest} {hand} key e) held = nothing_keeps forest outside key hand held e
    go (shared {forest} {hand} key object e two) held = shared_keeps forest outside key hand object held e two
    go (page {forest} {hand} key p e once) held = given_keeps forest outside key hand (PageObject p) held e once (λ place t. cc)
    go (take_out {forest} {hand} key node digit e once below) held = take_out_keeps forest outside key hand node digit held e once below
    go (empty_node {forest} {hand} key node e once empty) held = given_keeps forest outside key hand (NodeObject node) held e once
        (λ place t.
        let is : place / 16 ≡ node = cc in
        let at_digit : place_of node (place % 16) ≡ place = omega arith in
        rw (← at_digit) (empty (place % 16) (omega arith)))

keeps_all : (old next new : Forest) (outside : Object → ℕ) (old_hand next_hand new_hand : List Key)
    → StepKeeps old next outside old_hand next_hand → StepKeeps next new outside next_hand new_hand → StepKeeps old new outside old_hand new_hand
keeps_all old next new outside old_hand next_hand new_hand a b = record {
  held = b.held;
  spaces = λ space is. b.spaces space (a.spaces space is);
  keys = λ space is way w. b.keys space (a.spaces space is) way w ∙ a.keys space is way w;
  lost = λ object some none. lost_next object some none (next.owner object) refl;
  never = λ object none. b.never object (a.never object none);
  owners = λ object some. b.owners object some ∙ a.owners object (ap is_some (sym (b.owners object some)) ∙ some);
  unnamed = λ object nobody. b.unnamed object (a.unnamed object nobody);
  filled = λ none. b.filled (a.filled none);
}
  where
    lost_next : (object : Object) → IsSome (old.owner object) → new.owner object ≡ None → (o : Option Owner) → next.owner object ≡ o → outside object ≡ 0
    lost_next object some none None e = a.lost object some e
    lost_next object some none (Some owner) e = b.lost object (ap is_some e) none

release_keeps : (outside : Object → ℕ) {old new : Forest} {old_hand new_hand : List Key} → Release old old_hand new new_hand → Counted old outside old_hand
    → StepKeeps old new outside old_hand new_hand
release_keeps outside (done {forest} {hand}) held = record {
  held = held;
  spaces = λ space is. is;
  keys = λ space is way w. refl;
  lost = λ object some none. absurd (some_not_none (forest.owner object) some none);
  never = λ object none. none;
  owners = λ object some. refl;
  unnamed = λ object nobody. nobody;
  filled = λ none. none;
}
release_keeps outside (more {old} {next} {new} {old_hand} {next_hand} {new_hand} first rest) held =
    let a = step_keeps old next outside old_hand next_hand first held in
    keeps_all old next new outside old_hand next_hand new_hand a (release_keeps outside rest a.held)

-- a root whose keys have stayed
pub same_root : (old new : ℕ → Key) (space : ℕ) → ((digit : ℕ) → digit < 16 → at new (place_of space digit) ≡ at old (place_of space digit))
    → IsRoot old space → IsRoot new space
same_root old new space same root = record {
  parts = λ digit small. rw (same digit (omega arith)) (root.parts digit small);
  unused = λ digit large small. same digit (omega arith) ∙ root.unused digit large small;
  keeper = ap named (same 15 (omega arith)) ∙ root.keeper;
}

pub release_unnamed : (old new : Forest) (outside : Object → ℕ) (old_hand new_hand : List Key) → Counted old outside old_hand → Release old old_hand new new_hand
    → (object : Object) → NobodyNames old.keys object → NobodyNames new.keys object
release_unnamed old new outside old_hand new_hand held r object nobody = (release_keeps outside r held).unnamed object nobody

-- the keys along each way of a space stay
pub release_keys : (old new : Forest) (outside : Object → ℕ) (old_hand new_hand : List Key) → Counted old outside old_hand → Release old old_hand new new_hand
    → (space : ℕ) → IsSpace old old_hand space → (way : List ℕ) → IsWay way → key_along new.keys (space_key space) way ≡ key_along old.keys (space_key space) way
release_keys old new outside old_hand new_hand held r = (release_keeps outside r held).keys

pub release_keeps_spaces : ReleaseKeepsSpaces
release_keeps_spaces old new outside old_hand new_hand held r =
    let k = release_keeps outside r held.counts in
    let back = λ (space : ℕ) (is : IsSpace new new_hand space).
    spaces_back old new outside old_hand new_hand held.apart k.held.exact k.held.alive (λ object some out. ap is_some (sym (k.owners object some)) ∙ some) space is in (
      record {
        counts = k.held;
        rooted = λ space is. same_root old.keys new.keys space (λ digit below. k.keys space (back space is) (digit ∷ []) (below, tt)) (held.rooted space (back space is));
      },
      λ space is. (
        k.spaces space is,
        same_map old.keys new.keys space space (λ page below. ap mapping_of (k.keys space is (page_way page) (way_of_page page))),
      ),
      λ space is. record {
        was = back space is;
        owner = k.owners (NodeObject space) is.owned;
        keeper = k.keys space (back space is) (15 ∷ []) (omega arith, tt);
      },
    )

pub release_gives_unnamed : ReleaseGivesUnnamed
release_gives_unnamed old new outside old_hand new_hand held r object some =
    let k = release_keeps outside r held.counts in (
      λ now.
          let count = k.held.alive object now in
          let exact = k.held.exact.counted object now in
          omega arith,
      λ named_now. none_or_some (new.owner object) (λ none.
          let out = k.lost object some none in
          let hand = k.held.gone object none in
          let places = nobody_counted new object (λ place h. some_not_none (new.owner object) (owned_object new k.held.sound place object h) none) in
          omega arith),
    )

-- a Null key goes out of hand
pub drop_null : (forest : Forest) (outside : Object → ℕ) (hand : List Key) → Held forest outside (Null ∷ hand) → Held forest outside hand
drop_null forest outside hand held = (release_keeps_spaces forest forest outside (Null ∷ hand) hand held (more (nothing Null refl) done)).0

pub release_leaves_none_empty : ReleaseLeavesNoneEmpty
release_leaves_none_empty old new outside old_hand new_hand held r none = (release_keeps outside r held.counts).filled none
