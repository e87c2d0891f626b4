-- What a walk down a space reads.
use Rattle.std.proofs.Common.{◌≡◌, ◌≢◌, ◌<◌, ◌-◌, ◌/◌, ◌%◌, ◌^◌, ℕ, Some, None, List, [], Bool, refl, ap, sym, ◌∙◌}
use Rattle.std.specs.Option.{IsSome}
use Rattle.std.proofs.lemmas.Bool.{lt-ltb}
use Rattle.kn_base.specs.declared.key.Key.{Key}
use Rattle.kn_base.specs.declared.key.Key.TheVariants.{Null, Page, Segment}
use Rattle.kn_base.specs.declared.key.NodeId.{NodeId}
use Rattle.kn_base.specs.declared.key.PageId.{PageId}
use Rattle.forest.specs.Objects.{NodeObject, named}
use Rattle.forest.specs.Walks.{key_below, key_along, space_key, digits, map_of, mapping_of, page_way}
use Rattle.forest.specs.Forest.{EndsAt, Forest, Sound, IsSpace}
use Rattle.forest.proofs.CopyLaws.{end_owned}
use Rattle.seg_tree.proofs.Emptiness.{no_node}
use Rattle.seg_tree.proofs.Levels.{digits-pred, digits-zero}

pub below_other : (keys : ℕ → Key) (upper : Key) (digit : ℕ) → ((node : NodeId) (height : ℕ) → upper ≡ Segment node height → ⊥) → key_below keys upper digit ≡ Null
below_other keys (Segment node height) digit none = absurd (none node height refl)
below_other keys _ digit none = refl

pub way_zero : (keys : ℕ → Key) (space levels number : ℕ) → levels ≡ 0 → space_key space ≡ key_along keys (space_key space) (digits levels number)
way_zero keys space levels number e = rw (digits-zero levels number e) refl

pub way_more : (keys : ℕ → Key) (space levels number : ℕ) (upper key : Key) → levels ≢ 0 → upper ≡ key_along keys (space_key space) (digits (levels - 1) (number / 16))
    → key ≡ key_below keys upper (number % 16) → key ≡ key_along keys (space_key space) (digits levels number)
way_more keys space levels number upper key some above below = rw (digits-pred levels number some) (below ∙ ap (λ k. key_below keys k (number % 16)) above)

pub end_owned_here : (forest : Forest) (space : ℕ) (way : List ℕ) (upper : Key) → Sound forest → IsSpace forest [] space → upper ≡ key_along forest.keys (space_key space) way
    → (node : ℕ) → named upper ≡ Some (NodeObject node) → IsSome (forest.owner (NodeObject node))
end_owned_here forest space way upper sound is e node h = end_owned forest [] sound space is way (NodeObject node) (ap named (sym e) ∙ h)

map_is : (keys : ℕ → Key) (space page : ℕ) → page < 2 ^ 19 → map_of keys space page ≡ mapping_of (key_along keys (space_key space) (digits 5 page))
unfolding map_of page_way
map_is keys space page below = rw (lt-ltb page (2 ^ 19) below) refl

no_mapping : (key : Key) → ((page : PageId) (writable : Bool) → key ≡ Page page writable → ⊥) → mapping_of key ≡ None
no_mapping (Page page writable) none = absurd (none page writable refl)
no_mapping _ none = refl

-- what a page number maps is told by the key at the end of its way: a page's, or another
pub page_found : (keys : ℕ → Key) (space page : ℕ) (key told : Key) → page < 2 ^ 19 → key ≡ key_along keys (space_key space) (digits 5 page) → key ≡ told → mapping_of told ≡ map_of keys space page
page_found keys space page key told below is same = ap mapping_of (sym same ∙ is) ∙ sym (map_is keys space page below)

pub none_found : (keys : ℕ → Key) (space page : ℕ) (key : Key) → page < 2 ^ 19 → key ≡ key_along keys (space_key space) (digits 5 page)
    → ((id : PageId) (writable : Bool) → key ≡ Page id writable → ⊥) → None ≡ map_of keys space page
none_found keys space page key below is none = sym (no_mapping key none) ∙ page_found keys space page key key below is refl

-- a node's key at the end of a way
pub node_found : (keys : ℕ → Key) (space : ℕ) (way : List ℕ) (key : Key) (node : NodeId) (height : ℕ) → key ≡ key_along keys (space_key space) way → key ≡ Segment node height
    → EndsAt keys space way (NodeObject node.0)
node_found keys space way key node height is same = ap named (sym is ∙ same)

pub no_node_found : (keys : ℕ → Key) (space : ℕ) (way : List ℕ) (key : Key) (node : ℕ) → key ≡ key_along keys (space_key space) way
    → ((id : NodeId) (height : ℕ) → key ≡ Segment id height → ⊥) → EndsAt keys space way (NodeObject node) → ⊥
no_node_found keys space way key node is none ends = no_node key none node (ap named is ∙ ends)
