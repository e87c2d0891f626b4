-- Changes at the end of an own way: a key that is written, and a node that is copied.
use Rattle.std.proofs.Common.{◌≡◌, ◌≢◌, ◌<◌, ◌≤◌, ◌%◌, ◌^◌, ℕ, true, false, Option, Some, List, [], ◌∷◌, length, refl, ap, sym, ◌∙◌, arith, ⊎_elim, nat_lt}
use Rattle.std.proofs.Math.Path.{fun_ext}
use Rattle.std.proofs.lemmas.Bool.{cases_Bool, cases_eq, ltb-true, lt-ltb, eq-eqb, ne_eqb}
use Rattle.kn_base.specs.declared.key.Key.{Key}
use Rattle.kn_base.specs.declared.key.Key.TheVariants.{Segment}
use Rattle.unix_model.specs.Tables.{with_at}
use Rattle.unix_model.proofs.TableLaws.{at-with_at, at-with_at-other}
use Rattle.forest.specs.Objects.{Object, NodeObject, named}
use Rattle.forest.specs.Walks.{place_of, key_below, key_along, space_key, IsWay, digits, page_way, Mapping, mapping_of, map_of, key_at_page}
use Rattle.forest.specs.Forest.{Forest, Sound, Exact, IsSpace, NobodyNames, OwnWay, EndsAt, node_way}
use Rattle.forest.specs.Laws.{WriteChangesOneMap}
use Rattle.forest.proofs.WalkLaws.{AloneWay, central}
use Rattle.forest.proofs.OwnLaws.{alone_way, way_of_page, same_page}
use Rattle.forest.proofs.MapLaws.{node_key, same_map}

-- a key written at a place that isn't stepped on
pub below_write : (keys : ℕ → Key) (place : ℕ) (key upper : Key) (digit : ℕ)
    → ((node : ℕ) → named upper ≡ Some (NodeObject node) → place_of node digit ≢ place)
    → key_below (with_at keys place key) upper digit ≡ key_below keys upper digit
below_write keys place key (Segment n height) digit off = at-with_at-other keys place (place_of n.0 digit) key (off n.0 refl)
below_write keys place key _ digit off = refl

-- what is known of an own way and its node
pub record OwnEnd (keys : ℕ → Key) (space : ℕ) (way : List ℕ) (node : ℕ) : Type 0 where
  pub free : NobodyNames keys (NodeObject space)
  pub is_way : IsWay way
  pub alone : AloneWay keys space way
  pub ends : EndsAt keys space way (NodeObject node)

-- a way that isn't longer doesn't step on a key of the node
pub short_way : (keys : ℕ → Key) (space node digit : ℕ) (way : List ℕ) (key : Key) → OwnEnd keys space way node → digit < 16
    → (other : ℕ) → NobodyNames keys (NodeObject other) → (other_way : List ℕ) → IsWay other_way → length other_way ≤ length way
    → key_along (with_at keys (place_of node digit) key) (space_key other) other_way ≡ key_along keys (space_key other) other_way
short_way keys space node digit way key own below other other_free [] w short = refl
short_way keys space node digit way key own below other other_free (e ∷ es) w short =
    ap (λ upper. key_below (with_at keys (place_of node digit) key) upper e)
    (short_way keys space node digit way key own below other other_free es w.1 (omega arith))
    ∙ below_write keys (place_of node digit) key (key_along keys (space_key other) es) e
    (λ m h same.
    let e_below = w.0 in
    let is : m ≡ node = omega arith in
    let r = central keys space other own.free other_free way es own.is_way w.1 own.alone (NodeObject node) own.ends (h ∙ ap (λ n. Some (NodeObject n)) is) in
    let lengths : length es ≡ length way = ap length r.1 in
    omega arith)

-- nor does a way of one digit more, unless it is this one
other_way_same : (keys : ℕ → Key) (space node digit : ℕ) (way : List ℕ) (key : Key) → OwnEnd keys space way node → digit < 16
    → (other : ℕ) → NobodyNames keys (NodeObject other) → (e : ℕ) (es : List ℕ) → IsWay (e ∷ es) → length es ≡ length way
    → ((other ≡ space) × (e ≡ digit) × (es ≡ way) → ⊥)
    → key_along (with_at keys (place_of node digit) key) (space_key other) (e ∷ es) ≡ key_along keys (space_key other) (e ∷ es)
other_way_same keys space node digit way key own below other other_free e es w long differs =
    ap (λ upper. key_below (with_at keys (place_of node digit) key) upper e)
    (short_way keys space node digit way key own below other other_free es w.1 (omega arith))
    ∙ below_write keys (place_of node digit) key (key_along keys (space_key other) es) e
    (λ m h same.
    let e_below = w.0 in
    let is : m ≡ node = omega arith in
    let is_digit : e ≡ digit = omega arith in
    let r = central keys space other own.free other_free way es own.is_way w.1 own.alone (NodeObject node) own.ends (h ∙ ap (λ n. Some (NodeObject n)) is) in
    differs (r.0, is_digit, r.1))

-- the key that was written is found on its own way
pub this_way : (keys : ℕ → Key) (space node digit : ℕ) (way : List ℕ) (key : Key) → OwnEnd keys space way node → digit < 16
    → key_along (with_at keys (place_of node digit) key) (space_key space) (digit ∷ way) ≡ key
this_way keys space node digit way key own below =
    ap (λ upper. key_below (with_at keys (place_of node digit) key) upper digit)
    (short_way keys space node digit way key own below space own.free way own.is_way (omega arith))
    ∙ (node_key (with_at keys (place_of node digit) key) (key_along keys (space_key space) way) node own.ends).below digit
    ∙ at-with_at keys (place_of node digit) key

pub page_way-parts : (page : ℕ) → page_way page ≡ page % 16 ∷ node_way page
unfolding page_way digits node_way
page_way-parts page = refl

pub length-node_way : (page : ℕ) → length (node_way page) ≡ 4
unfolding node_way digits
length-node_way page = refl

pub own_end : (forest : Forest) (outside : Object → ℕ) (hand : List Key) (space node : ℕ) (way : List ℕ)
    → Sound forest → Exact forest outside hand → IsSpace forest hand space → IsWay way → OwnWay forest space way
    → EndsAt forest.keys space way (NodeObject node) → OwnEnd forest.keys space way node
own_end forest outside hand space node way sound exact is_space w own ends = record {
  free = is_space.unnamed;
  is_way = w;
  alone = alone_way forest outside hand sound exact space way own;
  ends = ends;
}

-- a map that differs at one page
map_changed : (old new : ℕ → Key) (space page : ℕ) (found : Option Mapping) → page < 2 ^ 19
    → mapping_of (key_at_page new space page) ≡ found
    → ((other : ℕ) → other < 2 ^ 19 → other ≢ page → mapping_of (key_at_page new space other) ≡ mapping_of (key_at_page old space other))
    → map_of new space ≡ with_at (map_of old space) page found
unfolding map_of with_at
map_changed old new space page found below here elsewhere = fun_ext (λ k. ⊎_elim
    (λ (e : k ≡ page).
    rw (eq-eqb k page e, e, lt-ltb page (2 ^ 19) below) here)
    (λ (e : k ≢ page).
    rw (ne_eqb k page e) (⊎_elim
    (λ (inside : nat_lt k (2 ^ 19) ≡ true). rw inside (elsewhere k (ltb-true k (2 ^ 19) inside) e))
    (λ (past : nat_lt k (2 ^ 19) ≡ false). rw past refl)
    (cases_Bool (nat_lt k (2 ^ 19)))))
    (cases_eq k page))

-- the key at another page, or in another space
elsewhere_same : (keys : ℕ → Key) (space node page : ℕ) (key : Key) → OwnEnd keys space (node_way page) node → page < 2 ^ 19
    → (other : ℕ) → NobodyNames keys (NodeObject other) → (k : ℕ) → k < 2 ^ 19 → ((other ≡ space) × (k ≡ page) → ⊥)
    → key_at_page (with_at keys (place_of node (page % 16)) key) other k ≡ key_at_page keys other k
elsewhere_same keys space node page key own below other other_free k k_below differs =
    rw (page_way-parts k) (other_way_same keys space node (page % 16) (node_way page) key own (omega arith) other other_free (k % 16) (node_way k)
    (rw page_way-parts at (way_of_page k)) (length-node_way k ∙ sym (length-node_way page))
    (λ same. differs (
      same.0,
      same_page k page k_below below
          (page_way-parts k ∙ ap (λ d. d ∷ node_way k) same.1 ∙ ap (λ way. page % 16 ∷ way) same.2 ∙ sym (page_way-parts page)),
    )))

write_map : (keys : ℕ → Key) (space node page : ℕ) (key : Key) → OwnEnd keys space (node_way page) node → page < 2 ^ 19
    → map_of (with_at keys (place_of node (page % 16)) key) space ≡ with_at (map_of keys space) page (mapping_of key)
write_map keys space node page key own below =
    map_changed keys (with_at keys (place_of node (page % 16)) key) space page (mapping_of key) below
    (ap mapping_of (ap (key_along (with_at keys (place_of node (page % 16)) key) (space_key space)) (page_way-parts page)
    ∙ this_way keys space node (page % 16) (node_way page) key own (omega arith)))
    (λ k k_below apart. ap mapping_of (elsewhere_same keys space node page key own below space own.free k k_below (λ same. apart same.1)))

pub way_of_node : (page : ℕ) → IsWay (node_way page)
unfolding node_way digits
way_of_node page = (omega arith, (omega arith, (omega arith, (omega arith, tt))))

pub write_changes_one_map : WriteChangesOneMap
write_changes_one_map forest outside hand space page node key sound exact is_space below own ends =
    let e = own_end forest outside hand space node (node_way page) sound exact is_space (way_of_node page) own ends in (
      write_map forest.keys space node page key e below,
      λ other other_is_space apart.
          same_map forest.keys (with_at forest.keys (place_of node (page % 16)) key) other other
          (λ k k_below. ap mapping_of (elsewhere_same forest.keys space node page key e below other other_is_space.unnamed k k_below (λ same. apart same.0))),
    )
