-- A forest: the nodes and pages that belong to trees, with what names them. Several trees may share what stands below
-- their roots.
use Rattle.std.specs.Prelude.{◌≡◌, ◌≢◌, ◌<◌, ◌≤◌, ◌+◌, ◌*◌, ◌/◌, ℕ, if◌then◌else◌, Option, Some, None, IsSome, IsSomeAnd, is_some, List, [], ◌∷◌, ⊤}
use Rattle.std.specs.List.{count_by}
use Rattle.kn_base.specs.declared.key.Key.{Key}
use Rattle.kn_base.specs.declared.key.Key.TheVariants.{Null, Page, Segment}
use Rattle.unix_model.specs.Tables.{at, count_below}
use Rattle.forest.specs.Objects.{Object, PageObject, NodeObject, Owner, named, names}
use Rattle.forest.specs.Walks.{place_of, key_below, key_along, space_key, digits}

-- The number of nodes of the store, the keys of those nodes that belong to trees, the owner of each object that belongs to
-- one, and how often each object is stored to be named.
pub record Forest : Type 0 where
  pub nodes : ℕ
  pub keys : ℕ → Key
  pub owner : Object → Option Owner
  pub count : Object → ℕ

-- the keys of nodes that belong to trees: all others are masked out
unfoldable pub masked : (Object → Option Owner) → (ℕ → Key) → ℕ → Key
masked owner keys place = if is_some (owner (NodeObject (place / 16))) then keys place else Null

-- no place names the object
abbrev pub NobodyNames : (ℕ → Key) → Object → Type 0
NobodyNames keys object = (place : ℕ) → named (at keys place) ≢ Some object

-- how many places of the forest name an object
unfoldable pub namings : Forest → Object → ℕ
namings forest object = count_below (λ place. names object (at forest.keys place)) (16 * forest.nodes)

-- how many keys in hand name an object
unfoldable pub in_hand : List Key → Object → ℕ
in_hand hand object = count_by (names object) hand

-- Each object's stored count is the number of places of the forest that name it, and what names it from outside (the
-- domains and the tables), and how often it is in hand.
pub record Exact (forest : Forest) (outside : Object → ℕ) (hand : List Key) : Type 0 where
  pub counted : (object : Object) → IsSome (forest.owner object)
      → forest.count object ≡ namings forest object + outside object + in_hand hand object

-- A space is a node that belongs to a tree and that no key of a tree names. A node in hand is not yet one, or no more.
pub record IsSpace (forest : Forest) (hand : List Key) (space : ℕ) : Type 0 where
  pub owned : IsSome (forest.owner (NodeObject space))
  pub unnamed : NobodyNames forest.keys (NodeObject space)
  pub not_in_hand : in_hand hand (NodeObject space) ≡ 0

-- a key that may stand in a node of a height: nothing, a page at height 1, or above it a node of the next lower height
abbrev pub FitsUnder : ℕ → Key → Type 0
FitsUnder height Null = ⊤
FitsUnder height (Page page writable) = height ≡ 1
FitsUnder height (Segment node below) = (0 < below) × (below + 1 ≡ height)
FitsUnder height _ = ⊥

-- a key that may stand in the node for which another key stands
abbrev pub FitsBelow : Key → Key → Type 0
FitsBelow (Segment node height) key = FitsUnder height key
FitsBelow _ key = ⊤

-- the height of the node for which a key stands, and 0 for all other keys
abbrev pub key_height : Key → ℕ
key_height (Segment node height) = height
key_height _ = 0

-- A root has height 5. Its first eight keys are its parts, the last one is the keeper's and names no part of a tree, and
-- those between are Null.
pub record IsRoot (keys : ℕ → Key) (space : ℕ) : Type 0 where
  pub parts : (digit : ℕ) → digit < 8 → FitsUnder 5 (at keys (place_of space digit))
  pub unused : (digit : ℕ) → 8 ≤ digit → digit < 15 → at keys (place_of space digit) ≡ Null
  pub keeper : named (at keys (place_of space 15)) ≡ None

-- The rules of single places: below a root heights are 1 to 4 and fall by one, the owner of a child is its parent's, and a
-- node that belongs to no tree has no key in the forest.
pub record Sound (forest : Forest) : Type 0 where
  pub within : (node : ℕ) → IsSome (forest.owner (NodeObject node)) → node < forest.nodes
  pub masked : (place : ℕ) → forest.owner (NodeObject (place / 16)) ≡ None → at forest.keys place ≡ Null
  pub owned : (place : ℕ) (object : Object) → named (at forest.keys place) ≡ Some object
      → forest.owner object ≡ forest.owner (NodeObject (place / 16))
  pub heights : (place digit : ℕ) → digit < 16 → FitsBelow (at forest.keys place) (key_below forest.keys (at forest.keys place) digit)
  pub low : (place : ℕ) → key_height (at forest.keys place) < 5

-- each space is as a root is
abbrev pub Rooted : Forest → List Key → Type 0
Rooted forest hand = (space : ℕ) → IsSpace forest hand space → IsRoot forest.keys space

-- Places are sound, counts are exact, whatever belongs to a tree is counted at least once, what belongs to none is not in
-- hand, and what something outside names is named by nothing else.
pub record Counted (forest : Forest) (outside : Object → ℕ) (hand : List Key) : Type 0 where
  pub sound : Sound forest
  pub exact : Exact forest outside hand
  pub alive : (object : Object) → IsSome (forest.owner object) → 1 ≤ forest.count object
  pub gone : (object : Object) → forest.owner object ≡ None → in_hand hand object ≡ 0
  pub apart : (object : Object) → 1 ≤ outside object → NobodyNames forest.keys object × (in_hand hand object ≡ 0)

-- what holds of a forest before and after each change: all is counted, and each space is as a root is
pub record Held (forest : Forest) (outside : Object → ℕ) (hand : List Key) : Type 0 where
  pub counts : Counted forest outside hand
  pub open counts use *
  pub rooted : Rooted forest hand

-- a node has a key that isn't Null
abbrev pub IsFilled : (ℕ → Key) → ℕ → Type 0
IsFilled keys node = (digit : ℕ) × (digit < 16) × (at keys (place_of node digit) ≢ Null)

-- no node below a root is empty, ..
abbrev pub NoneEmpty : (ℕ → Key) → Type 0
NoneEmpty keys = (place node : ℕ) → named (at keys place) ≡ Some (NodeObject node) → IsFilled keys node

-- .. but this one may be
abbrev pub NoneEmptyBut : (ℕ → Key) → ℕ → Type 0
NoneEmptyBut keys but = (place node : ℕ) → named (at keys place) ≡ Some (NodeObject node) → node ≢ but → IsFilled keys node

-- a key names an object that is counted once
abbrev pub CountedOnce : Forest → Key → Type 0
CountedOnce forest key = IsSomeAnd (named key) (λ object. forest.count object ≡ 1)

-- a way from a space on which each object below the root is counted once
abbrev pub OwnWay : Forest → ℕ → List ℕ → Type 0
OwnWay forest space [] = ⊤
OwnWay forest space (digit ∷ way) =
    CountedOnce forest (key_along forest.keys (space_key space) (digit ∷ way)) × OwnWay forest space way

-- a way from a space ends at a key that names an object
abbrev pub EndsAt : (ℕ → Key) → ℕ → List ℕ → Object → Type 0
EndsAt keys space way object = named (key_along keys (space_key space) way) ≡ Some object

-- the way to the node of height 1 in which a page of a space stands
unfoldable pub node_way : ℕ → List ℕ
node_way page = digits 4 (page / 16)

-- pages of trees are named by keys of trees alone
abbrev pub NoPageOutside : Forest → (Object → ℕ) → Type 0
NoPageOutside forest outside = (page : ℕ) → IsSome (forest.owner (PageObject page)) → outside (PageObject page) ≡ 0

-- the first digit that a walk takes, which is the last one of its way
abbrev pub top_digit : List ℕ → ℕ
top_digit [] = 0
top_digit (digit ∷ []) = digit
top_digit (digit ∷ next ∷ way) = top_digit (next ∷ way)
