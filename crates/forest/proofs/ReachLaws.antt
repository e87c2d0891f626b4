-- Whatever is counted is reached: climbing from a place to the root above it.
use Rattle.std.proofs.Common.{◌≡◌, ◌<◌, ◌≤◌, ◌+◌, ◌*◌, ◌/◌, ◌%◌, ◌^◌, ℕ, zero, suc, Bool, true, false, Some, None, List, [], ◌∷◌, length, refl, ap, sym, ◌∙◌, arith, if◌then◌else◌, ⊎_elim, ◌==◌}
use Rattle.std.specs.Option.{IsSome}
use Rattle.std.proofs.lemmas.Bool.{cases_Bool, cases_lt, lt-ltb}
use Rattle.kn_base.specs.declared.key.Key.{Key}
use Rattle.kn_base.specs.declared.key.Key.TheVariants.{Null, Page, Segment}
use Rattle.unix_model.specs.Tables.{at, count_below}
use Rattle.forest.specs.Objects.{Object, PageObject, NodeObject, named, names}
use Rattle.forest.specs.Walks.{place_of, key_below, key_along, space_key, IsWay, digits, page_way, mapping_of, map_of, key_at_page}
use Rattle.forest.specs.Forest.{Forest, Sound, IsSpace, IsRoot, Rooted, NobodyNames, FitsBelow, FitsUnder, key_height, EndsAt, in_hand, namings, Held, top_digit, NoPageOutside}
use Rattle.forest.specs.Labels.{page_number}
use Rattle.forest.specs.Laws.{EverythingIsReached, EveryPageIsMapped}
use Rattle.forest.proofs.CountLaws.{names-true}
use Rattle.forest.proofs.WalkLaws.{step}
use Rattle.forest.proofs.ExactLaws.{nobody_counted}
use Rattle.forest.proofs.OwnLaws.{owned_node}
use Rattle.forest.proofs.MapLaws.{node_key}
use Rattle.forest.proofs.ReleaseLaws.{release_goes_down, unnamed}

-- a number that the test holds of
pub record Witness (test : ℕ → Bool) (n : ℕ) : Type 0 where
  pub number : ℕ
  pub below : number < n
  pub holds : test number ≡ true

pub witness : (test : ℕ → Bool) (n : ℕ) → 1 ≤ count_below test n → Witness test n
unfolding count_below
witness test zero h = absurd (omega arith)
witness test (suc n) h = ⊎_elim
    (λ (t : test n ≡ true). record { number = n; below = omega arith; holds = t })
    (λ (t : test n ≡ false).
    let less : 1 ≤ count_below test n = (let e : 1 ≤ count_below test n + 0 = rw t at h in omega arith) in
    let w = witness test n less in
    record { number = w.number; below = (let b = w.below in omega arith); holds = w.holds })
    (cases_Bool (test n))

-- an object is named by no place, or by some place
pub data NamedSomewhere (forest : Forest) (object : Object) : Type 0 where
  nowhere : NobodyNames forest.keys object → NamedSomewhere forest object
  somewhere : (place : ℕ) → named (at forest.keys place) ≡ Some object → NamedSomewhere forest object

pub named_somewhere : (forest : Forest) → Sound forest → (object : Object) → NamedSomewhere forest object
unfolding namings
named_somewhere forest sound object = ⊎_elim
    (λ (none : namings forest object < 1). nowhere (unnamed forest sound object (omega arith)))
    (λ (some : 1 ≤ namings forest object).
    let w = witness (λ place. names object (at forest.keys place)) (16 * forest.nodes) some in
    somewhere w.number (names-true object (at forest.keys w.number) w.holds))
    (cases_lt (namings forest object) 1)

pub record Reached (forest : Forest) (object : Object) : Type 0 where
  pub space : ℕ
  pub way : List ℕ
  pub is_space : IsSpace forest [] space
  pub is_way : IsWay way
  pub ends : EndsAt forest.keys space way object

pub nothing_in_hand : (object : Object) → in_hand [] object ≡ 0
unfolding in_hand
nothing_in_hand object = refl

pub root_reached : (forest : Forest) (node : ℕ) → IsSome (forest.owner (NodeObject node)) → NobodyNames forest.keys (NodeObject node) → Reached forest (NodeObject node)
root_reached forest node owned nobody = record {
  space = node;
  way = [];
  is_space = record { owned = owned; unnamed = nobody; not_in_hand = nothing_in_hand (NodeObject node) };
  is_way = tt;
  ends = refl;
}

below_reached : (forest : Forest) (place : ℕ) (object : Object) → named (at forest.keys place) ≡ Some object → Reached forest (NodeObject (place / 16)) → Reached forest object
below_reached forest place object h r = record {
  space = r.space;
  way = place % 16 ∷ r.way;
  is_space = r.is_space;
  is_way = (omega arith, r.is_way);
  ends =
      let split : place_of (place / 16) (place % 16) ≡ place = omega arith in
      ap named ((node_key forest.keys (key_along forest.keys (space_key r.space) r.way) (place / 16) r.ends).below (place % 16) ∙ ap (at forest.keys) split) ∙ h;
}

up : (forest : Forest) → Sound forest → (place upper : ℕ) (object : Object) → named (at forest.keys place) ≡ Some object
    → named (at forest.keys upper) ≡ Some (NodeObject (place / 16)) → key_height (at forest.keys place) < key_height (at forest.keys upper)
up forest sound place upper object h e =
    let split : place_of (place / 16) (place % 16) ≡ place = omega arith in
    let is : key_below forest.keys (at forest.keys upper) (place % 16) ≡ at forest.keys place =
    (node_key forest.keys (at forest.keys upper) (place / 16) e).below (place % 16) ∙ ap (at forest.keys) split in
    let lower = release_goes_down forest.keys (at forest.keys upper) (place % 16) object (sound.heights upper (place % 16) (omega arith)) (ap named is ∙ h) in
    rw is at lower

climb_on : (forest : Forest) → Sound forest → (fuel place : ℕ) (object : Object) → named (at forest.keys place) ≡ Some object
    → 5 ≤ suc fuel + key_height (at forest.keys place)
    → ((upper : ℕ) → named (at forest.keys upper) ≡ Some (NodeObject (place / 16)) → 5 ≤ fuel + key_height (at forest.keys upper) → Reached forest (NodeObject (place / 16)))
    → NamedSomewhere forest (NodeObject (place / 16)) → Reached forest object
climb_on forest sound fuel place object h high above (nowhere nobody) =
    below_reached forest place object h (root_reached forest (place / 16) (owned_node forest sound place object h) nobody)
climb_on forest sound fuel place object h high above (somewhere upper e) =
    below_reached forest place object h (above upper e (let higher = up forest sound place upper object h e in omega arith))

climb : (forest : Forest) → Sound forest → (fuel place : ℕ) (object : Object) → named (at forest.keys place) ≡ Some object
    → 5 ≤ fuel + key_height (at forest.keys place) → Reached forest object
climb forest sound zero place object h high = absurd (let low = sound.low place in omega arith)
climb forest sound (suc fuel) place object h high =
    climb_on forest sound fuel place object h high (λ upper e higher. climb forest sound fuel upper (NodeObject (place / 16)) e higher)
    (named_somewhere forest sound (NodeObject (place / 16)))

-- an object that some place names, or a root
pub reached_from : (forest : Forest) → Sound forest → (object : Object) → NamedSomewhere forest object → (NobodyNames forest.keys object → Reached forest object) → Reached forest object
reached_from forest sound object (nowhere nobody) root = root nobody
reached_from forest sound object (somewhere place h) root = climb forest sound 5 place object h (omega arith)

pub reached : (forest : Forest) (outside : Object → ℕ) (object : Object) → Held forest outside [] → NoPageOutside forest outside
    → IsSome (forest.owner object) → Reached forest object
reached forest outside (NodeObject node) held none_outside owned =
    reached_from forest held.sound (NodeObject node) (named_somewhere forest held.sound (NodeObject node)) (root_reached forest node owned)
reached forest outside (PageObject page) held none_outside owned =
    reached_from forest held.sound (PageObject page) (named_somewhere forest held.sound (PageObject page))
    (λ nobody. absurd (
    let alive = held.alive (PageObject page) owned in
    let counted = held.exact.counted (PageObject page) owned in
    let places = nobody_counted forest (PageObject page) nobody in
    let out = none_outside page owned in
    let hand = nothing_in_hand (PageObject page) in
    omega arith))

pub everything_is_reached : EverythingIsReached
everything_is_reached forest outside object held none_outside owned =
    let r = reached forest outside object held none_outside owned in
    (r.space, r.way, r.is_space, r.is_way, r.ends)

-- the owner of what a space reaches is the space's
pub way_owner : (forest : Forest) → Sound forest → (space : ℕ) (way : List ℕ) → IsWay way → (object : Object) → EndsAt forest.keys space way object
    → forest.owner object ≡ forest.owner (NodeObject space)
way_owner forest sound space [] w object ends = ap forest.owner (let is : object ≡ NodeObject space = cc in is)
way_owner forest sound space (digit ∷ way) w object ends =
    let s = step forest.keys (key_along forest.keys (space_key space) way) digit object ends in
    let below = w.0 in
    let split : place_of s.node digit / 16 ≡ s.node = omega arith in
    sound.owned (place_of s.node digit) object s.here
    ∙ ap (λ n. forest.owner (NodeObject n)) split
    ∙ way_owner forest sound space way w.1 (NodeObject s.node) s.upper_names

fitted : (height : ℕ) (lower : Key) (object : Object) → FitsUnder height lower → named lower ≡ Some object → key_height lower + 1 ≡ height
fitted height (Segment below low) object fits h = fits.1
fitted height (Page p w) object fits h = omega arith
fitted height _ object fits h = cc

one_down : (keys : ℕ → Key) (upper : Key) (digit : ℕ) (object : Object) → FitsBelow upper (key_below keys upper digit)
    → named (key_below keys upper digit) ≡ Some object → key_height (key_below keys upper digit) + 1 ≡ key_height upper
one_down keys (Segment node height) digit object fits h = fitted height (at keys (place_of node.0 digit)) object fits h
one_down keys _ digit object fits h = cc

-- the first step from a root
pub root_fits : (keys : ℕ → Key) (space digit : ℕ) (object : Object) → IsRoot keys space → digit < 16 → named (at keys (place_of space digit)) ≡ Some object
    → (digit < 8) × FitsUnder 5 (at keys (place_of space digit))
root_fits keys space digit object root below h = ⊎_elim
    (λ (small : digit < 8). (small, root.parts digit small))
    (λ (large : 8 ≤ digit). ⊎_elim
    (λ (middle : digit < 15). absurd (let null : named Null ≡ Some object = ap named (sym (root.unused digit large middle)) ∙ h in cc))
    (λ (last : 15 ≤ digit). absurd (
    let is : digit ≡ 15 = omega arith in
    let none : None ≡ Some object = sym root.keeper ∙ ap (λ d. named (at keys (place_of space d))) (sym is) ∙ h in cc))
    (cases_lt digit 15))
    (cases_lt digit 8)

-- on a way of so many digits from a root, a key stands so many levels lower
pub way_height : (forest : Forest) (hand : List Key) → Sound forest → Rooted forest hand → (space : ℕ) → IsSpace forest hand space → (way : List ℕ) → IsWay way
    → (object : Object) → EndsAt forest.keys space way object → key_height (key_along forest.keys (space_key space) way) + length way ≡ 5
way_height forest hand sound rooted space is_space [] w object ends = refl
way_height forest hand sound rooted space is_space (digit ∷ []) w object ends =
    fitted 5 (at forest.keys (place_of space digit)) object (root_fits forest.keys space digit object (rooted space is_space) w.0 ends).1 ends
way_height forest hand sound rooted space is_space (digit ∷ next ∷ way) w object ends =
    let s = step forest.keys (key_along forest.keys (space_key space) (next ∷ way)) digit object ends in
    let t = step forest.keys (key_along forest.keys (space_key space) way) next (NodeObject s.node) s.upper_names in
    let fits : FitsBelow (key_along forest.keys (space_key space) (next ∷ way)) (key_below forest.keys (key_along forest.keys (space_key space) (next ∷ way)) digit) =
    rw t.is (sound.heights (place_of t.node next) digit w.0) in
    let above = way_height forest hand sound rooted space is_space (next ∷ way) w.1 (NodeObject s.node) s.upper_names in
    let down = one_down forest.keys (key_along forest.keys (space_key space) (next ∷ way)) digit object fits ends in
    omega arith

-- the first step is below 8
pub way_top : (forest : Forest) (hand : List Key) → Rooted forest hand → (space : ℕ) → IsSpace forest hand space → (digit : ℕ) (way : List ℕ) → IsWay (digit ∷ way)
    → (object : Object) → EndsAt forest.keys space (digit ∷ way) object → top_digit (digit ∷ way) < 8
way_top forest hand rooted space is_space digit [] w object ends = (root_fits forest.keys space digit object (rooted space is_space) w.0 ends).0
way_top forest hand rooted space is_space digit (next ∷ way) w object ends =
    let s = step forest.keys (key_along forest.keys (space_key space) (next ∷ way)) digit object ends in
    way_top forest hand rooted space is_space next way w.1 (NodeObject s.node) s.upper_names

-- the number with these digits
pub number_of : List ℕ → ℕ
number_of [] = 0
number_of (digit ∷ way) = digit + 16 * number_of way

digits-number_of : (way : List ℕ) → IsWay way → digits (length way) (number_of way) ≡ way
unfolding digits number_of
digits-number_of [] w = refl
digits-number_of (digit ∷ way) w =
    let below = w.0 in
    let first : (digit + 16 * number_of way) % 16 ≡ digit = omega arith in
    let rest : (digit + 16 * number_of way) / 16 ≡ number_of way = omega arith in
    rw (first, rest) (ap (λ ds. digit ∷ ds) (digits-number_of way w.1))

pub five_digits : (way : List ℕ) → IsWay way → length way ≡ 5 → top_digit way < 8 → number_of way < 2 ^ 19
unfolding number_of
five_digits (a ∷ b ∷ c ∷ d ∷ e ∷ []) w five top =
    let a_below = w.0 in let b_below = w.1.0 in let c_below = w.1.1.0 in let d_below = w.1.1.1.0 in omega arith
five_digits [] w five top = absurd (omega arith)
five_digits (a ∷ []) w five top = absurd (omega arith)
five_digits (a ∷ b ∷ []) w five top = absurd (omega arith)
five_digits (a ∷ b ∷ c ∷ []) w five top = absurd (omega arith)
five_digits (a ∷ b ∷ c ∷ d ∷ []) w five top = absurd (omega arith)
five_digits (a ∷ b ∷ c ∷ d ∷ e ∷ f ∷ way) w five top = absurd (omega arith)

pub way_is_page : (way : List ℕ) → IsWay way → length way ≡ 5 → page_way (number_of way) ≡ way
unfolding page_way
way_is_page way w five = rw five at (digits-number_of way w)

numbered : (page number : ℕ) (none : Bool) → (if none then None else Some (PageObject page)) ≡ Some (PageObject number) → (if none then None else Some page) ≡ Some number
numbered page number true h = cc
numbered page number false h = cc

-- a key that names a page
pub page_key : (key : Key) (page : ℕ) → named key ≡ Some (PageObject page) → (key_height key ≡ 0) × (page_number (mapping_of key) ≡ Some page)
page_key (Page p writable) page h = (refl, numbered p.0 page (p.0 == 0) h)
page_key (Segment node height) page h = absurd (let contra : Some (NodeObject node.0) ≡ Some (PageObject page) = h in cc)
page_key _ page h = absurd (let contra : None ≡ Some (PageObject page) = h in cc)

pub map_inside : (keys : ℕ → Key) (space page : ℕ) → page < 2 ^ 19 → map_of keys space page ≡ mapping_of (key_at_page keys space page)
unfolding map_of
map_inside keys space page below = rw (lt-ltb page (2 ^ 19) below) refl

pub nonempty_top : (forest : Forest) (hand : List Key) → Rooted forest hand → (space : ℕ) → IsSpace forest hand space → (way : List ℕ) → IsWay way → length way ≡ 5
    → (object : Object) → EndsAt forest.keys space way object → top_digit way < 8
nonempty_top forest hand rooted space is_space [] w five object ends = absurd (omega arith)
nonempty_top forest hand rooted space is_space (digit ∷ way) w five object ends = way_top forest hand rooted space is_space digit way w object ends

pub every_page_is_mapped : EveryPageIsMapped
every_page_is_mapped forest outside page held none_outside owned =
    let r = reached forest outside (PageObject page) held none_outside owned in
    let k = page_key (key_along forest.keys (space_key r.space) r.way) page r.ends in
    let height = way_height forest [] held.sound held.rooted r.space r.is_space r.way r.is_way (PageObject page) r.ends in
    let low = k.0 in
    let five : length r.way ≡ 5 = omega arith in
    let top = nonempty_top forest [] held.rooted r.space r.is_space r.way r.is_way five (PageObject page) r.ends in
    let below = five_digits r.way r.is_way five top in (
      r.space,
      number_of r.way,
      r.is_space,
      sym (way_owner forest held.sound r.space r.way r.is_way (PageObject page) r.ends),
      below,
      ap page_number (map_inside forest.keys r.space (number_of r.way) below
          ∙ ap (λ way. mapping_of (key_along forest.keys (space_key r.space) way)) (way_is_page r.way r.is_way five)) ∙ k.1,
    )
