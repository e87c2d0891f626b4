-- From stored counts to walks: what is counted once is named by one place alone, and so is reached on one way alone.
use Rattle.std.proofs.Common.{◌≡◌, ◌≢◌, ◌<◌, ◌≤◌, ◌*◌, ◌/◌, ◌%◌, ◌^◌, ℕ, true, false, Option, Some, None, List, [], ◌∷◌, refl, ap, sym, ◌∙◌, arith, ⊎_elim, nat_lt}
use Rattle.std.specs.Option.{is_some, IsSome}
use Rattle.std.proofs.lemmas.Bool.{cases_order, cases_Bool, ltb-true, ne_eqb}
use Rattle.kn_base.specs.declared.key.Key.{Key}
use Rattle.kn_base.specs.declared.key.Key.TheVariants.{Null, Page}
use Rattle.unix_model.specs.Tables.{at}
use Rattle.forest.specs.Objects.{Object, PageObject, NodeObject, Owner, named, names}
use Rattle.forest.specs.Walks.{key_along, space_key, IsWay, digits, page_way, Mapping, mapping_of, map_of, key_at_page}
use Rattle.forest.specs.Forest.{Forest, Sound, Exact, OwnWay, CountedOnce, namings}
use Rattle.forest.specs.Laws.{OwnIsAlone, OwnPageIsAlone}
use Rattle.forest.proofs.WalkLaws.{Alone, AloneWay, central}
use Rattle.forest.proofs.CountLaws.{true-names, counted_two}

-- the node of a place at which something is named belongs to a tree
pub owned_node : (forest : Forest) → Sound forest → (place : ℕ) (object : Object)
    → named (at forest.keys place) ≡ Some object → IsSome (forest.owner (NodeObject (place / 16)))
owned_node forest sound place object h = go (forest.owner (NodeObject (place / 16))) refl
  where
    go : (owner : Option Owner) → forest.owner (NodeObject (place / 16)) ≡ owner → IsSome (forest.owner (NodeObject (place / 16)))
    go None e = absurd (let null : named Null ≡ Some object = ap named (sym (sound.masked place e)) ∙ h in cc)
    go (Some owner) e = ap is_some e

-- and so does what is named there
pub owned_object : (forest : Forest) → Sound forest → (place : ℕ) (object : Object)
    → named (at forest.keys place) ≡ Some object → IsSome (forest.owner object)
owned_object forest sound place object h =
    ap is_some (sound.owned place object h) ∙ owned_node forest sound place object h

-- the place is one of the store's
pub place_within : (forest : Forest) → Sound forest → (place : ℕ) (object : Object)
    → named (at forest.keys place) ≡ Some object → place < 16 * forest.nodes
place_within forest sound place object h =
    let inside = sound.within (place / 16) (owned_node forest sound place object h) in omega arith

-- two places that name an object count twice
pub named_twice : (forest : Forest) → Sound forest → (object : Object) (p q : ℕ) → p < q
    → named (at forest.keys p) ≡ Some object → named (at forest.keys q) ≡ Some object → 2 ≤ namings forest object
unfolding namings
named_twice forest sound object p q less h k =
    counted_two (λ place. names object (at forest.keys place)) (16 * forest.nodes) p q less
    (place_within forest sound q object k) (true-names object (at forest.keys p) h) (true-names object (at forest.keys q) k)

-- what is counted once is named by one place alone
pub alone : (forest : Forest) (outside : Object → ℕ) (hand : List Key) → Sound forest → Exact forest outside hand
    → (object : Object) → forest.count object ≡ 1 → Alone forest.keys object
alone forest outside hand sound exact object once p q h k =
    let counted = exact.counted object (owned_object forest sound p object h) in
    ⊎_elim (λ (e : p ≡ q). e)
    (⊎_elim
    (λ (less : p < q). let two = named_twice forest sound object p q less h k in absurd (omega arith))
    (λ (less : q < p). let two = named_twice forest sound object q p less k h in absurd (omega arith)))
    (cases_order p q)

-- a key that names an object counted once
pub once_at : (forest : Forest) (key : Key) (object : Object) → CountedOnce forest key → named key ≡ Some object → forest.count object ≡ 1
once_at forest key object once e = rw e at once

pub alone_way : (forest : Forest) (outside : Object → ℕ) (hand : List Key) → Sound forest → Exact forest outside hand
    → (space : ℕ) (way : List ℕ) → OwnWay forest space way → AloneWay forest.keys space way
alone_way forest outside hand sound exact space [] own = tt
alone_way forest outside hand sound exact space (digit ∷ way) own = (
  λ object ends. alone forest outside hand sound exact object (once_at forest (key_along forest.keys (space_key space) (digit ∷ way)) object own.0 ends),
  alone_way forest outside hand sound exact space way own.1,
)

pub own_is_alone : OwnIsAlone
own_is_alone forest outside hand space other way other_way object sound exact is_space other_is_space w v own ends other_ends =
    central forest.keys space other is_space.unnamed other_is_space.unnamed way other_way w v
    (alone_way forest outside hand sound exact space way own) object ends other_ends

-- a page number is known by its digits
pub same_page : (a b : ℕ) → a < 2 ^ 19 → b < 2 ^ 19 → page_way a ≡ page_way b → a ≡ b
unfolding page_way digits
same_page a b a_below b_below e =
    let e0 : a % 16 ≡ b % 16 = cc in
    let e1 : a / 16 % 16 ≡ b / 16 % 16 = cc in
    let e2 : a / 16 / 16 % 16 ≡ b / 16 / 16 % 16 = cc in
    let e3 : a / 16 / 16 / 16 % 16 ≡ b / 16 / 16 / 16 % 16 = cc in
    let e4 : a / 16 / 16 / 16 / 16 % 16 ≡ b / 16 / 16 / 16 / 16 % 16 = cc in
    omega arith

pub way_of_page : (page : ℕ) → IsWay (page_way page)
unfolding page_way digits
way_of_page page = (omega arith, (omega arith, (omega arith, (omega arith, (omega arith, tt)))))

-- what is found at a page number is what the key there maps
pub record Found (keys : ℕ → Key) (space page : ℕ) (found : Mapping) : Type 0 where
  pub below : page < 2 ^ 19
  pub maps : mapping_of (key_at_page keys space page) ≡ Some found

pub found_at : (keys : ℕ → Key) (space page : ℕ) (found : Mapping) → map_of keys space page ≡ Some found → Found keys space page found
unfolding map_of
found_at keys space page found h = ⊎_elim
    (λ (e : nat_lt page (2 ^ 19) ≡ true). record { below = ltb-true page (2 ^ 19) e; maps = rw e at h })
    (λ (e : nat_lt page (2 ^ 19) ≡ false). absurd (let none : None ≡ Some found = rw e at h in cc))
    (cases_Bool (nat_lt page (2 ^ 19)))

-- a mapped page that isn't the page of zeros is named
pub mapped_named : (key : Key) (found : Mapping) → mapping_of key ≡ Some found → found.page ≢ 0 → named key ≡ Some (PageObject found.page)
mapped_named (Page page writable) found h there =
    let e : page.0 ≡ found.page = cc in
    let no : page.0 ≢ 0 = λ z. there (sym e ∙ z) in
    rw (ne_eqb page.0 0 no) (ap (λ n. Some (PageObject n)) e)
mapped_named _ found h there = cc

pub own_page_is_alone : OwnPageIsAlone
own_page_is_alone forest outside hand space other page other_page found other_found sound exact is_space other_is_space own there h k e =
    let f = found_at forest.keys space page found h in
    let g = found_at forest.keys other other_page other_found k in
    let n = mapped_named (key_at_page forest.keys space page) found f.maps there in
    let m = mapped_named (key_at_page forest.keys other other_page) other_found g.maps (λ z. there (sym e ∙ z)) in
    let r = own_is_alone forest outside hand space other (page_way page) (page_way other_page) (PageObject found.page) sound exact is_space other_is_space
    (way_of_page page) (way_of_page other_page) own n (m ∙ ap (λ p. Some (PageObject p)) e) in
    (r.0, same_page other_page page g.below f.below r.1)
