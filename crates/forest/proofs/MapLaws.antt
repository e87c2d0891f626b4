-- Changes of keys that leave the maps of spaces as they are.
use Rattle.std.proofs.Common.{◌≡◌, ◌≢◌, ◌<◌, ◌+◌, ◌*◌, ◌/◌, ◌%◌, ◌^◌, ℕ, zero, suc, Bool, true, false, Some, None, List, [], ◌∷◌, refl, ap, sym, ◌∙◌, arith, if◌then◌else◌, ⊎_elim, nat_lt, ◌==◌}
use Rattle.std.proofs.Math.Path.{fun_ext}
use Rattle.std.proofs.lemmas.Bool.{cases_Bool, cases_eq, ltb-true, eq-eqb, ne_eqb}
use Rattle.kn_base.specs.declared.key.Key.{Key}
use Rattle.kn_base.specs.declared.key.Key.TheVariants.{Null, Page, Segment}
use Rattle.unix_model.specs.Tables.{at, with_at}
use Rattle.unix_model.proofs.TableLaws.{at-with_at, at-with_at-other}
use Rattle.forest.specs.Objects.{Object, PageObject, NodeObject, named}
use Rattle.forest.specs.Walks.{place_of, key_below, key_along, space_key, IsWay, digits, page_way, mapping_of, map_of, key_at_page}
use Rattle.forest.specs.Forest.{NobodyNames}
use Rattle.forest.specs.Changes.{filled, with_fresh}
use Rattle.forest.specs.Laws.{FreshKeepsMaps, DetachKeepsMaps, ShareKeepsMaps, UnnamedKeepsMaps}
use Rattle.forest.proofs.WalkLaws.{step}
use Rattle.forest.proofs.OwnLaws.{way_of_page}

pub at-filled : (keys content : ℕ → Key) (node digit : ℕ) → digit < 16 → at (filled keys node content) (place_of node digit) ≡ content digit
unfolding at filled
at-filled keys content node digit below =
    let q : (16 * node + digit) / 16 ≡ node = omega arith in
    let r : (16 * node + digit) % 16 ≡ digit = omega arith in
    rw (eq-eqb ((16 * node + digit) / 16) node q, r) refl

pub at-filled-other : (keys content : ℕ → Key) (node place : ℕ) → place / 16 ≢ node → at (filled keys node content) place ≡ at keys place
unfolding at filled
at-filled-other keys content node place apart = rw (ne_eqb (place / 16) node apart) refl

-- a walk that begins at no key of the node ends at no key of it
pub stays_off : (keys : ℕ → Key) (object : Object) → NobodyNames keys object → (top : Key) → named top ≢ Some object
    → (way : List ℕ) → named (key_along keys top way) ≢ Some object
stays_off keys object nobody top off [] = off
stays_off keys object nobody top off (digit ∷ way) = λ h.
    let s = step keys (key_along keys top way) digit object h in nobody (place_of s.node digit) s.here

below_same : (keys new : ℕ → Key) (node : ℕ) → ((place : ℕ) → place / 16 ≢ node → at new place ≡ at keys place)
    → (key : Key) → named key ≢ Some (NodeObject node) → (digit : ℕ) → digit < 16 → key_below new key digit ≡ key_below keys key digit
below_same keys new node same (Segment n height) off digit below = same (place_of n.0 digit)
    (λ e. off (ap (λ m. Some (NodeObject m)) (let is : n.0 ≡ node = omega arith in is)))
below_same keys new node same _ off digit below = refl

-- the keys of a node that nobody names make no difference
pub untouched : (keys content : ℕ → Key) (node : ℕ) → NobodyNames keys (NodeObject node) → (top : Key) → named top ≢ Some (NodeObject node)
    → (way : List ℕ) → IsWay way → key_along (filled keys node content) top way ≡ key_along keys top way
untouched keys content node nobody top off [] w = refl
untouched keys content node nobody top off (digit ∷ way) w =
    ap (λ key. key_below (filled keys node content) key digit) (untouched keys content node nobody top off way w.1)
    ∙ below_same keys (filled keys node content) node (at-filled-other keys content node) (key_along keys top way)
    (stays_off keys (NodeObject node) nobody top off way) digit w.0

-- maps agree where the keys at all pages do
pub same_map : (old new : ℕ → Key) (space other : ℕ) → ((page : ℕ) → page < 2 ^ 19 → mapping_of (key_at_page new other page) ≡ mapping_of (key_at_page old space page))
    → map_of new other ≡ map_of old space
unfolding map_of
same_map old new space other same = fun_ext (λ page. ⊎_elim
    (λ (e : nat_lt page (2 ^ 19) ≡ true). rw e (same page (ltb-true page (2 ^ 19) e)))
    (λ (e : nat_lt page (2 ^ 19) ≡ false). rw e refl)
    (cases_Bool (nat_lt page (2 ^ 19))))

pub not_the_node : (space node : ℕ) → space ≢ node → named (space_key space) ≢ Some (NodeObject node)
not_the_node space node apart e = apart (let is : space ≡ node = cc in is)

pub unnamed_keeps_maps : UnnamedKeepsMaps
unnamed_keeps_maps keys content node nobody space apart =
    same_map keys (filled keys node content) space space
    (λ page below. ap mapping_of (untouched keys content node nobody (space_key space) (not_the_node space node apart) (page_way page) (way_of_page page)))

-- a key before and after a fresh node was put at a place: the same one, or the one that stood there and the fresh node's
pub data Like (fresh : ℕ) (was is : Key) (a b : Key) : Type 0 where
  same : a ≡ b → named a ≢ Some (NodeObject fresh) → Like fresh was is a b
  replaced : a ≡ was → b ≡ is → Like fresh was is a b

-- what is known of keys with a fresh node put at a place
pub record Fresh (old new : ℕ → Key) (place fresh : ℕ) (is : Key) : Type 0 where
  pub nobody : NobodyNames old (NodeObject fresh)
  pub segment : (digit : ℕ) → digit < 16 → key_below new is digit ≡ key_below old (at old place) digit
  pub here : at new place ≡ is
  pub elsewhere : (other : ℕ) → other ≢ place → other / 16 ≢ fresh → at new other ≡ at old other

below_like : (old new : ℕ → Key) (place fresh : ℕ) (is : Key) → Fresh old new place fresh is → (key : Key) → named key ≢ Some (NodeObject fresh)
    → (digit : ℕ) → digit < 16 → Like fresh (at old place) is (key_below old key digit) (key_below new key digit)
below_like old new place fresh is f (Segment n height) off digit below = ⊎_elim
    (λ (e : place_of n.0 digit ≡ place). replaced (ap (at old) e) (ap (at new) e ∙ f.here))
    (λ (e : place_of n.0 digit ≢ place). same
    (sym (f.elsewhere (place_of n.0 digit) e (λ q. off (ap (λ m. Some (NodeObject m)) (let is_it : n.0 ≡ fresh = omega arith in is_it)))))
    (f.nobody (place_of n.0 digit)))
    (cases_eq (place_of n.0 digit) place)
below_like old new place fresh is f _ off digit below = same refl (λ e. cc)

like_step : (old new : ℕ → Key) (place fresh : ℕ) (is : Key) → Fresh old new place fresh is → (a b : Key) → Like fresh (at old place) is a b
    → (digit : ℕ) → digit < 16 → Like fresh (at old place) is (key_below old a digit) (key_below new b digit)
like_step old new place fresh is f a b (same e off) digit below =
    rw (← e) (below_like old new place fresh is f a off digit below)
like_step old new place fresh is f a b (replaced e g) digit below =
    rw (e, g) (same (sym (f.segment digit below))
    (λ h. let s = step old (at old place) digit (NodeObject fresh) h in f.nobody (place_of s.node digit) s.here))

pub like_along : (old new : ℕ → Key) (place fresh : ℕ) (is : Key) → Fresh old new place fresh is → (a b : Key) → Like fresh (at old place) is a b
    → (way : List ℕ) → IsWay way → Like fresh (at old place) is (key_along old a way) (key_along new b way)
like_along old new place fresh is f a b like [] w = like
like_along old new place fresh is f a b like (digit ∷ way) w =
    like_step old new place fresh is f (key_along old a way) (key_along new b way) (like_along old new place fresh is f a b like way w.1) digit w.0

like_maps : (fresh node height : ℕ) (was a b : Key) → mapping_of was ≡ None → Like fresh was (Segment (record { 0 = node }) height) a b → mapping_of b ≡ mapping_of a
like_maps fresh node height was a b no_page (same e off) = ap mapping_of (sym e)
like_maps fresh node height was a b no_page (replaced e g) = ap mapping_of g ∙ sym no_page ∙ ap mapping_of (sym e)

pub fresh_is : (keys : ℕ → Key) (place fresh height : ℕ) → NobodyNames keys (NodeObject fresh) → place / 16 ≢ fresh
    → Fresh keys (with_fresh keys place fresh height) place fresh (Segment (record { 0 = fresh }) height)
fresh_is keys place fresh height nobody apart = record {
  nobody = nobody;
  segment = λ digit below.
      at-with_at-other (filled keys fresh (key_below keys (at keys place))) place (place_of fresh digit) (Segment (record { 0 = fresh }) height)
      (λ e. apart (let is : place / 16 ≡ fresh = omega arith in is))
      ∙ at-filled keys (key_below keys (at keys place)) fresh digit below;
  here = at-with_at (filled keys fresh (key_below keys (at keys place))) place (Segment (record { 0 = fresh }) height);
  elsewhere = λ other differs off.
      at-with_at-other (filled keys fresh (key_below keys (at keys place))) place other (Segment (record { 0 = fresh }) height) differs
      ∙ at-filled-other keys (key_below keys (at keys place)) fresh other off;
}

pub fresh_keeps_maps : FreshKeepsMaps
fresh_keeps_maps keys place fresh height nobody apart no_page space differs =
    let f = fresh_is keys place fresh height nobody apart in
    same_map keys (with_fresh keys place fresh height) space space
    (λ page below. like_maps fresh fresh height (at keys place) (key_at_page keys space page) (key_at_page (with_fresh keys place fresh height) space page) no_page
    (like_along keys (with_fresh keys place fresh height) place fresh (Segment (record { 0 = fresh }) height) f (space_key space) (space_key space)
    (same refl (not_the_node space fresh differs)) (page_way page) (way_of_page page)))

-- a key that names a node stands for it
pub record IsNodeKey (keys : ℕ → Key) (key : Key) (node : ℕ) : Type 0 where
  pub no_page : mapping_of key ≡ None
  pub below : (digit : ℕ) → key_below keys key digit ≡ at keys (place_of node digit)

pub page_no_node : (page : ℕ) (node : ℕ) (none : Bool) → (if none then None else Some (PageObject page)) ≡ Some (NodeObject node) → ⊥
page_no_node page node true h = cc
page_no_node page node false h = cc

pub node_key : (keys : ℕ → Key) (key : Key) (node : ℕ) → named key ≡ Some (NodeObject node) → IsNodeKey keys key node
node_key keys (Segment n height) node h =
    let e : n.0 ≡ node = cc in
    record { no_page = refl; below = λ digit. ap (λ m. at keys (place_of m digit)) e }
node_key keys (Page page writable) node h = absurd (page_no_node page.0 node (page.0 == 0) h)
node_key keys _ node h = cc

-- a key before and after a node without keys went from its place
data Gone (node : ℕ) (a b : Key) : Type 0 where
  stays : a ≡ b → Gone node a b
  gone : named a ≡ Some (NodeObject node) → b ≡ Null → Gone node a b

gone_below : (keys : ℕ → Key) (place node : ℕ) → named (at keys place) ≡ Some (NodeObject node)
    → (key : Key) (digit : ℕ) → Gone node (key_below keys key digit) (key_below (with_at keys place Null) key digit)
gone_below keys place node h (Segment n height) digit = ⊎_elim
    (λ (e : place_of n.0 digit ≡ place). gone (ap (λ p. named (at keys p)) e ∙ h) (ap (at (with_at keys place Null)) e ∙ at-with_at keys place Null))
    (λ (e : place_of n.0 digit ≢ place). stays (sym (at-with_at-other keys place (place_of n.0 digit) Null e)))
    (cases_eq (place_of n.0 digit) place)
gone_below keys place node h _ digit = stays refl

gone_step : (keys : ℕ → Key) (place node : ℕ) → named (at keys place) ≡ Some (NodeObject node)
    → ((digit : ℕ) → digit < 16 → at keys (place_of node digit) ≡ Null)
    → (a b : Key) → Gone node a b → (digit : ℕ) → digit < 16
    → Gone node (key_below keys a digit) (key_below (with_at keys place Null) b digit)
gone_step keys place node h empty a b (stays e) digit below = rw (← e) (gone_below keys place node h a digit)
gone_step keys place node h empty a b (gone e g) digit below =
    rw g (stays ((node_key keys a node e).below digit ∙ empty digit below))

gone_along : (keys : ℕ → Key) (place node : ℕ) → named (at keys place) ≡ Some (NodeObject node)
    → ((digit : ℕ) → digit < 16 → at keys (place_of node digit) ≡ Null)
    → (top : Key) (way : List ℕ) → IsWay way → Gone node (key_along keys top way) (key_along (with_at keys place Null) top way)
gone_along keys place node h empty top [] w = stays refl
gone_along keys place node h empty top (digit ∷ way) w =
    gone_step keys place node h empty (key_along keys top way) (key_along (with_at keys place Null) top way)
    (gone_along keys place node h empty top way w.1) digit w.0

gone_maps : (keys : ℕ → Key) (node : ℕ) (a b : Key) → Gone node a b → mapping_of b ≡ mapping_of a
gone_maps keys node a b (stays e) = ap mapping_of (sym e)
gone_maps keys node a b (gone e g) = ap mapping_of g ∙ sym (node_key keys a node e).no_page

pub detach_keeps_maps : DetachKeepsMaps
detach_keeps_maps keys place node h empty space =
    same_map keys (with_at keys place Null) space space
    (λ page below. gone_maps keys node (key_at_page keys space page) (key_at_page (with_at keys place Null) space page)
    (gone_along keys place node h empty (space_key space) (page_way page) (way_of_page page)))

-- the way to a page: its first step, and the four after it
pub page_parts : (keys : ℕ → Key) (space page : ℕ)
    → key_at_page keys space page ≡ key_along keys (key_below keys (space_key space) (page / 16 / 16 / 16 / 16 % 16)) (digits 4 page)
unfolding page_way digits
page_parts keys space page = refl

way_of_digits : (count number : ℕ) → IsWay (digits count number)
unfolding digits
way_of_digits zero number = tt
way_of_digits (suc count) number = (omega arith, way_of_digits count (number / 16))

pub share_keeps_maps : ShareKeepsMaps
share_keeps_maps keys content fresh space nobody apart parts = (
  same_map keys (filled keys fresh content) space fresh
      (λ page below.
      let digit : ℕ = page / 16 / 16 / 16 / 16 % 16 in
      let small : digit < 8 = omega arith in
      let first : at (filled keys fresh content) (place_of fresh digit) ≡ at keys (place_of space digit) =
      at-filled keys content fresh digit (omega arith) ∙ parts digit small in
      ap mapping_of
      (page_parts (filled keys fresh content) fresh page
      ∙ ap (λ key. key_along (filled keys fresh content) key (digits 4 page)) first
      ∙ untouched keys content fresh nobody (at keys (place_of space digit)) (nobody (place_of space digit)) (digits 4 page) (way_of_digits 4 page)
      ∙ sym (page_parts keys space page))),
  λ other differs. unnamed_keeps_maps keys content fresh nobody other differs,
)
