-- A page that is counted elsewhere too is copied: the fresh page is put in its place, on a way that is this space's own.
use Rattle.std.proofs.Common.{◌≡◌, ◌≢◌, ◌<◌, ◌≤◌, ◌-◌, ◌%◌, ◌^◌, ℕ, Option, Some, None, List, [], ◌∷◌, refl, ap, sym, subst, ◌∙◌, arith, ⊎_elim}
use Rattle.std.specs.Option.{is_some}
use Rattle.std.proofs.lemmas.Bool.{cases_eq, ne_eqb}
use Rattle.kn_base.specs.declared.key.Key.{Key}
use Rattle.unix_model.specs.Tables.{at, with_at}
use Rattle.unix_model.proofs.TableLaws.{at-with_at, at-with_at-other}
use Rattle.forest.specs.Objects.{Object, PageObject, NodeObject, Owner, named}
use Rattle.forest.specs.Walks.{place_of, key_along, space_key, page_way, Mapping, map_of}
use Rattle.forest.specs.Forest.{Forest, Held, IsSpace, EndsAt, OwnWay, CountedOnce, FitsUnder, node_way}
use Rattle.forest.specs.Changes.{with_taken, with_key, lowered, counted_less, IsFree}
use Rattle.forest.specs.Descent.{MadeOwn, root, kept}
use Rattle.forest.specs.Release.{Release, done, more, nothing as nothing_step, shared as shared_step}
use Rattle.forest.specs.Calls.{ChangesMap, IsOwn}
use Rattle.forest.proofs.ExactLaws.{with_object-here}
use Rattle.forest.proofs.HeldLaws.{other_object, take_keeps_held}
use Rattle.forest.proofs.ReleaseLaws.{is_or_not, some_not_none}
use Rattle.forest.proofs.OwnLaws.{owned_object}
use Rattle.forest.proofs.CopyLaws.{counted_once, once}
use Rattle.forest.proofs.DescentLaws.{changes_one_page, leaf_names_page}
use Rattle.forest.proofs.OwnMaps.{own_end, way_of_node, length-node_way}
use Rattle.forest.proofs.CallLaws.{call_changes_map, own_way_is_own}
use Rattle.seg_tree.specs.Writes.{page_key, writable_mapping, leaf_copied}
use Rattle.seg_tree.proofs.Mapping.{space_leaf}
use Rattle.seg_tree.proofs.OwnWays.{written_keeps_way}

-- a way that is own is made own by nothing
pub own_made : (outside : Object → ℕ) (hand : List Key) (space : ℕ) (owner : Owner) (forest : Forest) (way : List ℕ) → OwnWay forest space way
    → MadeOwn outside hand space owner forest way forest 0
own_made outside hand space owner forest [] own = root
own_made outside hand space owner forest (digit ∷ way) own = kept digit (own_made outside hand space owner forest way own.1) own.0

-- a way stays own while an object is taken, ..
taken_once : (forest : Forest) (object : Object) (to : Owner) (key : Key) → CountedOnce forest key → CountedOnce (with_taken forest object to) key
taken_once forest object to key one =
    let o = once forest key one in
    counted_once (with_taken forest object to) key o.object o.names_it (⊎_elim
    (λ (t : o.object ≡ object). rw t (with_object-here forest.count object 1))
    (λ (t : o.object ≢ object). other_object forest.count object 1 o.object t ∙ o.counted)
    (is_or_not o.object object))

own_taken : (forest : Forest) (object : Object) (to : Owner) (space : ℕ) (way : List ℕ) → OwnWay forest space way → OwnWay (with_taken forest object to) space way
own_taken forest object to space [] own = tt
own_taken forest object to space (digit ∷ way) own =
    (taken_once forest object to (key_along forest.keys (space_key space) (digit ∷ way)) own.0, own_taken forest object to space way own.1)

-- .. and while an object is counted less that is counted more than once
less_keys : (forest : Forest) (there : Option Object) → (counted_less forest there).keys ≡ forest.keys
less_keys forest None = refl
less_keys forest (Some object) = refl

pub less_owner : (forest : Forest) (there : Option Object) → (counted_less forest there).owner ≡ forest.owner
less_owner forest None = refl
less_owner forest (Some object) = refl

abbrev pub IsMany : Forest → Option Object → Type 0
IsMany forest there = (object : Object) → there ≡ Some object → 2 ≤ forest.count object

less_once : (forest : Forest) (there : Option Object) → IsMany forest there → (key : Key) → CountedOnce forest key → CountedOnce (counted_less forest there) key
less_once forest None many key one = one
less_once forest (Some object) many key one =
    let o = once forest key one in
    counted_once (counted_less forest (Some object)) key o.object o.names_it
    (other_object forest.count object (forest.count object - 1) o.object (λ t. (
    let two = many object refl in
    let single : forest.count object ≡ 1 = ap forest.count (sym t) ∙ o.counted in
    absurd (omega arith))) ∙ o.counted)

pub own_less : (forest : Forest) (there : Option Object) → IsMany forest there → (space : ℕ) (way : List ℕ) → OwnWay forest space way → OwnWay (counted_less forest there) space way
own_less forest there many space [] own = tt
own_less forest there many space (digit ∷ way) own = (
  subst (λ (keys : ℕ → Key). CountedOnce (counted_less forest there) (key_along keys (space_key space) (digit ∷ way))) (sym (less_keys forest there))
      (less_once forest there many (key_along forest.keys (space_key space) (digit ∷ way)) own.0),
  own_less forest there many space way own.1,
)

-- a key in hand whose object is counted more than once is released by counting it less
pub release_less : (forest : Forest) (was : Key) → IsMany forest (named was) → Release forest (was ∷ []) (lowered forest was) []
release_less forest was many = go (named was) refl
  where
    go : (there : Option Object) → named was ≡ there → Release forest (was ∷ []) (counted_less forest there) []
    go None e = more (nothing_step was e) done
    go (Some object) e = more (shared_step was object e (many object e)) done

with_here : {X : Type 0} (table : ℕ → X) (n : ℕ) (x : X) → with_at table n x n ≡ x
unfolding at
with_here table n x = at-with_at table n x

fresh_named : (page : ℕ) → page ≢ 0 → named (page_key page) ≡ Some (PageObject page)
fresh_named page real = rw (ne_eqb page 0 real) refl

-- the fresh page stands at the end of an own way, in place of what stood there
module _ (forest : Forest) (outside : Object → ℕ) (space page node fresh : ℕ) (to : Owner) (held : Held forest outside []) (is_space : IsSpace forest [] space)
    (owner : forest.owner (NodeObject space) ≡ Some to) (below : page < 2 ^ 19) (own : OwnWay forest space (node_way page))
    (ends : EndsAt forest.keys space (node_way page) (NodeObject node)) (free : IsFree forest outside [] (PageObject fresh)) (real : fresh ≢ 0)
    (many : IsMany forest (named (at forest.keys (place_of node (page % 16))))) where
  taken_held : Held (with_taken forest (PageObject fresh) to) outside (page_key fresh ∷ [])
  taken_held = take_keeps_held forest outside [] (page_key fresh) (PageObject fresh) to held (fresh_named fresh real) free (λ n e. cc)

  owner_kept : (n : ℕ) → (with_taken forest (PageObject fresh) to).owner (NodeObject n) ≡ forest.owner (NodeObject n)
  owner_kept n = other_object forest.owner (PageObject fresh) (Some to) (NodeObject n) (λ e. cc)

  taken_space : (other : ℕ) → IsSpace forest [] other → IsSpace (with_taken forest (PageObject fresh) to) [] other
  taken_space other is = record { owned = ap is_some (owner_kept other) ∙ is.owned; unnamed = is.unnamed; not_in_hand = is.not_in_hand }

  key_owner : (object : Object) → named (page_key fresh) ≡ Some object → (with_taken forest (PageObject fresh) to).owner object ≡ Some to
  key_owner object h =
      let same : Some (PageObject fresh) ≡ Some object = sym (fresh_named fresh real) ∙ h in
      let is : PageObject fresh ≡ object = cc in
      subst (λ o. (with_taken forest (PageObject fresh) to).owner o ≡ Some to) is (with_object-here forest.owner (PageObject fresh) (Some to))

  made : MadeOwn outside (page_key fresh ∷ []) space to (with_taken forest (PageObject fresh) to) (node_way page) (with_taken forest (PageObject fresh) to) 0
  made = own_made outside (page_key fresh ∷ []) space to (with_taken forest (PageObject fresh) to) (node_way page) (own_taken forest (PageObject fresh) to space (node_way page) own)

  many_now : IsMany (with_key (with_taken forest (PageObject fresh) to) (place_of node (page % 16)) (page_key fresh)) (named (at forest.keys (place_of node (page % 16))))
  many_now object e =
      let apart : object ≢ PageObject fresh = λ t. some_not_none (forest.owner object) (owned_object forest held.sound (place_of node (page % 16)) object e) (ap forest.owner t ∙ free.unowned) in
      let same = other_object forest.count (PageObject fresh) 1 object apart in
      let two = many object e in
      omega arith

  abbrev pub with_page : Forest
  with_page = leaf_copied forest (place_of node (page % 16)) fresh to

  release : Release (with_key (with_taken forest (PageObject fresh) to) (place_of node (page % 16)) (page_key fresh)) (at forest.keys (place_of node (page % 16)) ∷ []) with_page []
  release = release_less (with_key (with_taken forest (PageObject fresh) to) (place_of node (page % 16)) (page_key fresh)) (at forest.keys (place_of node (page % 16))) many_now

  space_owner : (with_taken forest (PageObject fresh) to).owner (NodeObject space) ≡ Some to
  space_owner = owner_kept space ∙ owner

  pub changed : Held with_page outside [] × ChangesMap (with_taken forest (PageObject fresh) to) with_page space (with_at (map_of forest.keys space) page (Some (writable_mapping fresh)))
  changed =
      let call = call_changes_map outside space to (with_taken forest (PageObject fresh) to) (with_taken forest (PageObject fresh) to) with_page page node (page_key fresh) 0
      taken_held (taken_space space is_space) space_owner below refl key_owner made ends release in
      (call.0, call.1)

  pub own_now : OwnWay with_page space (page_way page)
  own_now =
      let one = changes_one_page outside [] space to (with_taken forest (PageObject fresh) to) (with_taken forest (PageObject fresh) to) page node (page_key fresh) 0
      taken_held (space_leaf (with_taken forest (PageObject fresh) to) [] (page_key fresh) space refl (taken_space space is_space)) space_owner below refl key_owner made ends in
      own_less (with_key (with_taken forest (PageObject fresh) to) (place_of node (page % 16)) (page_key fresh)) (named (at forest.keys (place_of node (page % 16)))) many_now space (page_way page)
      (one.own (counted_once (with_taken forest (PageObject fresh) to) (page_key fresh) (PageObject fresh) (fresh_named fresh real) (with_object-here forest.count (PageObject fresh) 1)))

  pub is_own : IsOwn with_page space page (writable_mapping fresh)
  is_own = own_way_is_own with_page outside space page (writable_mapping fresh) changed.0 changed.1.stays own_now
      (ap (λ (map : ℕ → Option Mapping). map page) changed.1.here ∙ with_here (map_of forest.keys space) page (Some (writable_mapping fresh))) real

  pub changes : ChangesMap forest with_page space (with_at (map_of forest.keys space) page (Some (writable_mapping fresh)))
  changes = record {
    stays = changed.1.stays;
    here = changed.1.here;
    others = record {
      stay = λ other is apart. changed.1.others.stay other (taken_space other is) apart;
      maps = λ other is apart. changed.1.others.maps other (taken_space other is) apart;
    };
    roots = λ other is.
        let r = changed.1.roots other is in
        let was = r.was in
        record {
          was = record { owned = ap is_some (sym (owner_kept other)) ∙ was.owned; unnamed = was.unnamed; not_in_hand = was.not_in_hand };
          owner = r.owner ∙ owner_kept other;
          keeper = r.keeper;
        };
  }

  -- each own way stays own
  pub ways_now : (mine other : ℕ) → IsSpace forest [] mine → OwnWay forest mine (node_way other) → OwnWay with_page mine (node_way other)
  ways_now mine other is other_own =
      let end = own_end forest outside [] space node (node_way page) held.sound held.exact is_space (way_of_node page) own ends in
      let four = length-node_way page in
      let four_other = length-node_way other in
      own_less (with_key (with_taken forest (PageObject fresh) to) (place_of node (page % 16)) (page_key fresh)) (named (at forest.keys (place_of node (page % 16)))) many_now mine (node_way other)
      (written_keeps_way (with_taken forest (PageObject fresh) to) space node (page % 16) (node_way page) (page_key fresh) end (omega arith) mine is.unnamed (node_way other) (way_of_node other) (omega arith)
      (own_taken forest (PageObject fresh) to mine (node_way other) other_own))

  node_owner : (n : ℕ) → (with_page).owner (NodeObject n) ≡ forest.owner (NodeObject n)
  node_owner n =
      ap (λ (o : Object → Option Owner). o (NodeObject n))
      (less_owner (with_key (with_taken forest (PageObject fresh) to) (place_of node (page % 16)) (page_key fresh)) (named (at forest.keys (place_of node (page % 16)))))
      ∙ owner_kept n

  pub keys_now : (with_page).keys ≡ with_at forest.keys (place_of node (page % 16)) (page_key fresh)
  keys_now = less_keys (with_key (with_taken forest (PageObject fresh) to) (place_of node (page % 16)) (page_key fresh)) (named (at forest.keys (place_of node (page % 16))))

  pub page_owner_now : (with_page).owner (PageObject fresh) ≡ Some to
  page_owner_now =
      ap (λ (o : Object → Option Owner). o (PageObject fresh))
      (less_owner (with_key (with_taken forest (PageObject fresh) to) (place_of node (page % 16)) (page_key fresh)) (named (at forest.keys (place_of node (page % 16)))))
      ∙ with_object-here forest.owner (PageObject fresh) (Some to)

  pub other_owner_now : (object : Object) → object ≢ PageObject fresh → (with_page).owner object ≡ forest.owner object
  other_owner_now object apart =
      ap (λ (o : Object → Option Owner). o object)
      (less_owner (with_key (with_taken forest (PageObject fresh) to) (place_of node (page % 16)) (page_key fresh)) (named (at forest.keys (place_of node (page % 16)))))
      ∙ other_object forest.owner (PageObject fresh) (Some to) object apart

  -- no space more than there was
  pub space_before : FitsUnder 1 (at forest.keys (place_of node (page % 16))) → (other : ℕ) → IsSpace with_page [] other → IsSpace forest [] other
  space_before fits other is = record {
    owned = ap is_some (sym (node_owner other)) ∙ is.owned;
    unnamed = λ place. ⊎_elim
        (λ (t : place ≡ place_of node (page % 16)) (h : named (at forest.keys place) ≡ Some (NodeObject other)).
        leaf_names_page (at forest.keys (place_of node (page % 16))) other fits (ap (λ p. named (at forest.keys p)) (sym t) ∙ h))
        (λ (t : place ≢ place_of node (page % 16)) (h : named (at forest.keys place) ≡ Some (NodeObject other)).
        is.unnamed place (ap (λ (keys : ℕ → Key). named (at keys place)) keys_now ∙ ap named (at-with_at-other forest.keys (place_of node (page % 16)) place (page_key fresh) t) ∙ h))
        (cases_eq place (place_of node (page % 16)));
    not_in_hand = is.not_in_hand;
  }

  pub space_after : (other : ℕ) → IsSpace forest [] other → IsSpace with_page [] other
  space_after other is = ⊎_elim
      (λ (t : other ≡ space). subst (λ n. IsSpace with_page [] n) (sym t) changed.1.stays)
      (λ (t : other ≢ space). changed.1.others.stay other (taken_space other is) t)
      (cases_eq other space)
