-- Each way of any space that is its own stays so while a way is made own, a page's key is written, and pages are counted more.
use Rattle.std.proofs.Common.{◌≡◌, ◌≢◌, ◌≤◌, ◌<◌, ◌+◌, ◌-◌, ◌==◌, ℕ, Bool, true, false, Some, List, [], ◌∷◌, length, refl, ap, sym, subst, ◌∙◌, arith, ⊎_elim}
use Rattle.std.specs.Option.{is_some, IsSome}
use Rattle.std.proofs.lemmas.Bool.{cases_Bool}
use Rattle.kn_base.specs.declared.key.Key.{Key}
use Rattle.kn_base.specs.declared.key.Key.TheVariants.{Segment, Page}
use Rattle.kn_base.specs.declared.key.PageId.{PageId}
use Rattle.unix_model.specs.Tables.{at, with_at, count_below}
use Rattle.forest.specs.Objects.{Object, NodeObject, PageObject, Owner, named, names, same_object, with_object}
use Rattle.forest.specs.Walks.{place_of, key_below, key_along, space_key, IsWay}
use Rattle.forest.specs.Forest.{Forest, Sound, Exact, IsSpace, Rooted, NobodyNames, OwnWay, CountedOnce, EndsAt, key_height, top_digit}
use Rattle.forest.specs.Changes.{with_fresh, with_copy, with_key, copied_count, raised, IsFree}
use Rattle.forest.specs.Descent.{MadeOwn, root, kept, copied}
use Rattle.forest.proofs.OwnLaws.{own_is_alone, once_at}
use Rattle.forest.proofs.ExactLaws.{not_named}
use Rattle.forest.proofs.MapLaws.{node_key, Like, same, replaced, Fresh, fresh_is, like_along, not_the_node}
use Rattle.forest.proofs.CopyLaws.{free_unnamed, end_owned, once, counted_once, none_below}
use Rattle.forest.proofs.DescentLaws.{AtEnd, descend, shorter_top}
use Rattle.forest.proofs.OwnMaps.{OwnEnd, short_way}
use Rattle.forest.proofs.ReachLaws.{way_height}

-- what is known where a node is copied at the end of a way: what stood there isn't counted once
record CopiesAt (forest : Forest) (outside : Object → ℕ) (hand : List Key) (mine space node digit fresh : ℕ) (way : List ℕ) : Type 0 where
  sound : Sound forest
  exact : Exact forest outside hand
  is_mine : IsSpace forest hand mine
  is_space : IsSpace forest hand space
  free : IsFree forest outside hand (NodeObject fresh)
  is_way : IsWay way
  below : digit < 16
  ends : EndsAt forest.keys space way (NodeObject node)
  shared : CountedOnce forest (key_along forest.keys (space_key space) (digit ∷ way)) → ⊥

module _ (forest : Forest) (outside : Object → ℕ) (hand : List Key) (mine space node digit fresh height : ℕ) (way : List ℕ) (owner : Owner)
    (c : CopiesAt forest outside hand mine space node digit fresh way) where
  -- what an own way leads to is reached on no other way
  only : (w v : List ℕ) (object : Object) → IsWay w → OwnWay forest mine w → EndsAt forest.keys mine w object
      → IsWay v → EndsAt forest.keys space v object → (space ≡ mine) × (v ≡ w)
  only w v object w_is own ends v_is v_ends =
      own_is_alone forest outside hand mine space w v object c.sound c.exact c.is_mine c.is_space w_is v_is own ends v_ends

  -- nor does it go through what isn't counted once
  not_through : (w : List ℕ) → OwnWay forest mine w → (space ≡ mine) × (digit ∷ way ≡ w) → ⊥
  not_through w own e =
      let through : OwnWay forest space (digit ∷ way) = subst (λ n. OwnWay forest n (digit ∷ way)) (sym e.0) (subst (OwnWay forest mine) (sym e.1) own) in
      c.shared through.0

  not_below : (d : ℕ) (w : List ℕ) → OwnWay forest mine w → (space ≡ mine) × (d ∷ digit ∷ way ≡ w) → ⊥
  not_below d w own e =
      let through : OwnWay forest space (d ∷ digit ∷ way) = subst (λ n. OwnWay forest n (d ∷ digit ∷ way)) (sym e.0) (subst (OwnWay forest mine) (sym e.1) own) in
      c.shared through.1.0

  at_place : key_along forest.keys (space_key space) (digit ∷ way) ≡ at forest.keys (place_of node digit)
  at_place = (node_key forest.keys (key_along forest.keys (space_key space) way) node c.ends).below digit

  nobody : NobodyNames forest.keys (NodeObject fresh)
  nobody = free_unnamed forest c.sound (NodeObject fresh) c.free.unowned

  not_fresh : (number : ℕ) → IsSome (forest.owner (NodeObject number)) → number ≢ fresh
  not_fresh number owned e =
      let none : is_some (forest.owner (NodeObject number)) ≡ false = ap (λ n. is_some (forest.owner (NodeObject n))) e ∙ ap is_some c.free.unowned in
      let contra : true ≡ false = sym owned ∙ none in cc

  is_fresh : Fresh forest.keys (with_fresh forest.keys (place_of node digit) fresh height) (place_of node digit) fresh (Segment (record { 0 = fresh }) height)
  is_fresh = fresh_is forest.keys (place_of node digit) fresh height nobody
      (λ e. not_fresh node (end_owned forest hand c.sound space c.is_space way (NodeObject node) c.ends) (let below = c.below in let is : node ≡ fresh = omega arith in is))

  keeps_like : (w : List ℕ) (object : Object) → IsWay w → OwnWay forest mine w → EndsAt forest.keys mine w object
      → (b : Key) → Like fresh (at forest.keys (place_of node digit)) (Segment (record { 0 = fresh }) height) (key_along forest.keys (space_key mine) w) b
      → b ≡ key_along forest.keys (space_key mine) w
  keeps_like w object w_is own ends b (same e off) = sym e
  keeps_like w object w_is own ends b (replaced e g) =
      absurd (not_through w own (only w (digit ∷ way) object w_is own ends (c.below, c.is_way) (ap named (at_place ∙ sym e) ∙ ends)))

  keeps : (w : List ℕ) (object : Object) → IsWay w → OwnWay forest mine w → EndsAt forest.keys mine w object
      → key_along (with_fresh forest.keys (place_of node digit) fresh height) (space_key mine) w ≡ key_along forest.keys (space_key mine) w
  keeps w object w_is own ends =
      keeps_like w object w_is own ends (key_along (with_fresh forest.keys (place_of node digit) fresh height) (space_key mine) w)
      (like_along forest.keys (with_fresh forest.keys (place_of node digit) fresh height) (place_of node digit) fresh (Segment (record { 0 = fresh }) height) is_fresh
      (space_key mine) (space_key mine) (same refl (not_the_node mine fresh (not_fresh mine c.is_mine.owned))) w w_is)

  keeps_count : (w : List ℕ) (object : Object) → IsWay w → OwnWay forest mine w → EndsAt forest.keys mine w object
      → copied_count forest (place_of node digit) object ≡ forest.count object
  unfolding copied_count
  keeps_count w object w_is own ends =
      let off : names object (at forest.keys (place_of node digit)) ≡ false = not_named (at forest.keys (place_of node digit)) object
      (λ h. not_through w own (only w (digit ∷ way) object w_is own ends (c.below, c.is_way) (ap named at_place ∙ h))) in
      let none : count_below (λ d. names object (key_below forest.keys (at forest.keys (place_of node digit)) d)) 16 ≡ 0 =
      none_below (λ d. names object (key_below forest.keys (at forest.keys (place_of node digit)) d)) 16
      (λ d d_below. not_named (key_below forest.keys (at forest.keys (place_of node digit)) d) object
      (λ h. not_below d w own (only w (d ∷ digit ∷ way) object w_is own ends (d_below, (c.below, c.is_way))
      (ap (λ key. named (key_below forest.keys key d)) at_place ∙ h)))) in
      rw (off, none) (omega arith)

  count_now : (object : Object) → copied_count forest (place_of node digit) object ≡ 1 → (with_copy forest (place_of node digit) fresh height owner).count object ≡ 1
  unfolding with_object
  count_now object h = ⊎_elim
      (λ (e : same_object object (NodeObject fresh) ≡ true). rw e refl)
      (λ (e : same_object object (NodeObject fresh) ≡ false). rw e h)
      (cases_Bool (same_object object (NodeObject fresh)))

  stays_own : (w : List ℕ) → IsWay w → OwnWay forest mine w → OwnWay (with_copy forest (place_of node digit) fresh height owner) mine w
  stays_own [] w_is own = tt
  stays_own (e ∷ w) w_is own =
      let o = once forest (key_along forest.keys (space_key mine) (e ∷ w)) own.0 in
      let key = keeps (e ∷ w) o.object w_is own o.names_it in
      let count = keeps_count (e ∷ w) o.object w_is own o.names_it in (
        counted_once (with_copy forest (place_of node digit) fresh height owner)
            (key_along (with_fresh forest.keys (place_of node digit) fresh height) (space_key mine) (e ∷ w)) o.object
            (ap named key ∙ o.names_it) (count_now o.object (count ∙ o.counted)),
        stays_own w w_is.1 own.1,
      )

-- every own way stays own while one is made so
pub made_keeps_way : (outside : Object → ℕ) (hand : List Key) (space : ℕ) (owner : Owner) {first last : Forest} {way : List ℕ} {taken : ℕ}
    → MadeOwn outside hand space owner first way last taken
    → AtEnd first outside hand space owner [] → IsWay way → length way ≤ 4 → top_digit way < 8
    → (mine : ℕ) → IsSpace first hand mine → (w : List ℕ) → IsWay w → OwnWay first mine w → OwnWay last mine w
made_keeps_way outside hand space owner (root {first}) start is_way short top mine is w w_is own = own
made_keeps_way outside hand space owner (kept {first} {last} {way} {taken} digit above own_here) start is_way short top mine is w w_is own =
    made_keeps_way outside hand space owner above start is_way.1 (omega arith) (shorter_top digit way top) mine is w w_is own
made_keeps_way outside hand space owner (copied {first} {last} {way} {taken} digit node fresh above shared ends free within) start is_way short top mine is w w_is own =
    let d = descend outside hand space owner above start is_way.1 (omega arith) (shorter_top digit way top) in
    let c : CopiesAt last outside hand mine space node digit fresh way = record {
      sound = d.end.held.sound;
      exact = d.end.held.exact;
      is_mine = (d.spaces mine).0 is;
      is_space = d.end.is_space;
      free = free;
      is_way = is_way.1;
      below = is_way.0;
      ends = ends;
      shared = shared;
    } in
    stays_own last outside hand mine space node digit fresh (4 - length way) way owner c w w_is
    (made_keeps_way outside hand space owner above start is_way.1 (omega arith) (shorter_top digit way top) mine is w w_is own)

-- and while a key is written at the end of an own way that isn't shorter
pub written_keeps_way : (forest : Forest) (space node digit : ℕ) (way : List ℕ) (key : Key) → OwnEnd forest.keys space way node → digit < 16
    → (mine : ℕ) → NobodyNames forest.keys (NodeObject mine) → (w : List ℕ) → IsWay w → length w ≤ length way
    → OwnWay forest mine w → OwnWay (with_key forest (place_of node digit) key) mine w
written_keeps_way forest space node digit way key end below mine nobody [] is short own = tt
written_keeps_way forest space node digit way key end below mine nobody (d ∷ w) is short own =
    let o = once forest (key_along forest.keys (space_key mine) (d ∷ w)) own.0 in (
      counted_once (with_key forest (place_of node digit) key) (key_along (with_at forest.keys (place_of node digit) key) (space_key mine) (d ∷ w)) o.object
          (ap named (short_way forest.keys space node digit way key end below mine nobody (d ∷ w) is short) ∙ o.names_it) o.counted,
      written_keeps_way forest space node digit way key end below mine nobody w is.1 (omega arith) own.1,
    )

-- a key that stands above pages names a node
node_on : (key : Key) (object : Object) → named key ≡ Some object → 1 ≤ key_height key → (node : ℕ) × (named key ≡ Some (NodeObject node))
node_on (Segment node height) object h high = (node.0, refl)
node_on _ object h high = absurd (omega arith)

-- a way of at most four digits stays own while no node is counted otherwise
pub counts_keep_way : (f g : Forest) (hand : List Key) (space : ℕ) → Sound f → Rooted f hand → IsSpace f hand space → g.keys ≡ f.keys
    → ((node : ℕ) → g.count (NodeObject node) ≡ f.count (NodeObject node))
    → (w : List ℕ) → IsWay w → length w ≤ 4 → OwnWay f space w → OwnWay g space w
counts_keep_way f g hand space sound rooted is keys counts [] w_is short own = tt
counts_keep_way f g hand space sound rooted is keys counts (d ∷ w) w_is short own =
    let o = once f (key_along f.keys (space_key space) (d ∷ w)) own.0 in
    let height = way_height f hand sound rooted space is (d ∷ w) w_is o.object o.names_it in
    let n = node_on (key_along f.keys (space_key space) (d ∷ w)) o.object o.names_it (omega arith) in (
      counted_once g (key_along g.keys (space_key space) (d ∷ w)) (NodeObject n.0)
          (ap (λ (k : ℕ → Key). named (key_along k (space_key space) (d ∷ w))) keys ∙ n.1)
          (counts n.0 ∙ once_at f (key_along f.keys (space_key space) (d ∷ w)) (NodeObject n.0) own.0 n.1),
      counts_keep_way f g hand space sound rooted is keys counts w w_is.1 (omega arith) own.1,
    )

other_count : (count : Object → ℕ) (page node x : ℕ) → with_object count (PageObject page) x (NodeObject node) ≡ count (NodeObject node)
unfolding with_object
other_count count page node x = refl

-- no node is counted otherwise where a page is counted more
pub raised_nodes : (forest : Forest) (id : PageId) (writable : Bool) (node : ℕ) → (raised forest (Page id writable)).count (NodeObject node) ≡ forest.count (NodeObject node)
raised_nodes forest id writable node = ⊎_elim
    (λ (t : (id.0 == 0) ≡ true). rw t refl)
    (λ (t : (id.0 == 0) ≡ false). rw t (other_count forest.count id.0 node (forest.count (PageObject id.0) + 1)))
    (cases_Bool (id.0 == 0))
