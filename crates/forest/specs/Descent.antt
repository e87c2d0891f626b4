-- Going down a way, level by level, and making it a space's own.
use Rattle.std.specs.Prelude.{◌≡◌, ◌≢◌, ◌<◌, ◌≤◌, ◌↔◌, ◌+◌, ◌-◌, ℕ, IsSome, List, [], ◌∷◌, length}
use Rattle.kn_base.specs.declared.key.Key.{Key}
use Rattle.unix_model.specs.Tables.{at, with_at}
use Rattle.forest.specs.Objects.{Object, NodeObject, Owner}
use Rattle.forest.specs.Walks.{place_of, key_along, space_key, page_way, mapping_of, map_of}
use Rattle.forest.specs.Forest.{Forest, Held, IsSpace, OwnWay, CountedOnce, EndsAt}
use Rattle.forest.specs.Changes.{with_copy, IsFree, KeepsRoot}

-- How a forest becomes another one while a way is made a space's own from the root down, and how many nodes that takes. At
-- each level a node that is counted once stays. In place of any other one, and where none is, stands a fresh copy.
pub data MadeOwn (outside : Object → ℕ) (hand : List Key) (space : ℕ) (owner : Owner) : Forest → List ℕ → Forest → ℕ → Type 0 where
  root : {first : Forest} → MadeOwn outside hand space owner first [] first 0
  kept : {first last : Forest} {way : List ℕ} {taken : ℕ} (digit : ℕ)
      → MadeOwn outside hand space owner first way last taken
      → CountedOnce last (key_along last.keys (space_key space) (digit ∷ way))
      → MadeOwn outside hand space owner first (digit ∷ way) last taken
  copied : {first last : Forest} {way : List ℕ} {taken : ℕ} (digit node fresh : ℕ)
      → MadeOwn outside hand space owner first way last taken
      → (CountedOnce last (key_along last.keys (space_key space) (digit ∷ way)) → ⊥)
      → EndsAt last.keys space way (NodeObject node) → IsFree last outside hand (NodeObject fresh) → fresh < last.nodes
      → MadeOwn outside hand space owner first (digit ∷ way) (with_copy last (place_of node digit) fresh (4 - length way) owner) (taken + 1)

-- What going down a way leaves. All that holds of the forest goes on to hold, the way is this space's own and ends at a
-- node, the spaces are the same and keep their maps and their keepers' keys, what belonged to a tree has the owner that it
-- had, at most as many nodes are taken as the way has digits, and where the way was this space's own before, nothing changes.
pub record IsMadeOwn (outside : Object → ℕ) (hand : List Key) (space : ℕ) (first last : Forest) (way : List ℕ) (taken : ℕ) : Type 0 where
  pub held : Held last outside hand
  pub own : OwnWay last space way
  pub node : ℕ
  pub ends : EndsAt last.keys space way (NodeObject node)
  pub spaces : (other : ℕ) → IsSpace first hand other ↔ IsSpace last hand other
  pub maps : (other : ℕ) → IsSpace first hand other → map_of last.keys other ≡ map_of first.keys other
  pub owners : (object : Object) → IsSome (first.owner object) → last.owner object ≡ first.owner object
  pub keepers : (other : ℕ) → IsSpace first hand other → at last.keys (place_of other 15) ≡ at first.keys (place_of other 15)
  pub few : taken ≤ length way
  pub unchanged : OwnWay first space way → (taken ≡ 0) × (last ≡ first)

-- What writing a key at the end of the way to a page leaves, where the way was made own before. The map of this space
-- changes at this page number, every other space keeps its map, spaces stay spaces and keep their roots, none is new, at most
-- four nodes are taken, and the whole way is this space's own where the key names an object that is counted once.
pub record IsPageChanged (outside : Object → ℕ) (old_hand new_hand : List Key) (space page : ℕ) (key : Key) (first last new : Forest) (taken : ℕ) : Type 0 where
  pub held : Held new outside new_hand
  pub here : map_of new.keys space ≡ with_at (map_of first.keys space) page (mapping_of key)
  pub others : (other : ℕ) → IsSpace first old_hand other → other ≢ space → map_of new.keys other ≡ map_of first.keys other
  pub spaces : (other : ℕ) → IsSpace first old_hand other → IsSpace new new_hand other
  pub roots : (other : ℕ) → IsSpace new new_hand other → KeepsRoot first new old_hand other
  pub few : taken ≤ 4
  pub own : CountedOnce last key → OwnWay new space (page_way page)
