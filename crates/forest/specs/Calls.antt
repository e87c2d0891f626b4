-- What calls on spaces do, in the words of a forest and of maps. Between calls no key is in hand.
use Rattle.std.specs.Prelude.{◌<◌, ◌≤◌, zero, suc, ⊤, ◌≡◌, ◌≢◌, ℕ, Option, Some, None, []}
use Rattle.kn_base.specs.declared.key.Key.{Key}
use Rattle.kn_base.specs.declared.key.Key.TheVariants.{Null}
use Rattle.unix_model.specs.Tables.{at}
use Rattle.forest.specs.Objects.{NodeObject, named}
use Rattle.forest.specs.Walks.{Mapping, map_of, place_of}
use Rattle.forest.specs.Forest.{Forest, IsSpace, FitsUnder, IsFilled}
use Rattle.forest.specs.Changes.{KeepsRoot}

-- every other space stays one and keeps its map
pub record KeepsOthers (old new : Forest) (space : ℕ) : Type 0 where
  pub stay : (other : ℕ) → IsSpace old [] other → other ≢ space → IsSpace new [] other
  pub maps : (other : ℕ) → IsSpace old [] other → other ≢ space → map_of new.keys other ≡ map_of old.keys other

-- A space stays one and has this map now, and every other one keeps its own. No space is new, and each root has the owner and the
-- keeper's key that it had.
pub record ChangesMap (old new : Forest) (space : ℕ) (map : ℕ → Option Mapping) : Type 0 where
  pub stays : IsSpace new [] space
  pub here : map_of new.keys space ≡ map
  pub others : KeepsOthers old new space
  pub roots : (other : ℕ) → IsSpace new [] other → KeepsRoot old new [] other

-- A node that belonged to no tree is a space and has this map. Every other space keeps its own, and was there before, with the owner
-- and the keeper's key that it has.
pub record AddsSpace (old new : Forest) (space : ℕ) (map : ℕ → Option Mapping) : Type 0 where
  pub fresh : old.owner (NodeObject space) ≡ None
  pub is_space : IsSpace new [] space
  pub here : map_of new.keys space ≡ map
  pub others : KeepsOthers old new space
  pub roots : (other : ℕ) → IsSpace new [] other → other ≢ space → KeepsRoot old new [] other

-- A space is no more, and every other one keeps its map. No space is new, and each root has the owner and the keeper's key that it had.
pub record DropsSpace (old new : Forest) (space : ℕ) : Type 0 where
  pub gone : new.owner (NodeObject space) ≡ None
  pub others : KeepsOthers old new space
  pub roots : (other : ℕ) → IsSpace new [] other → KeepsRoot old new [] other

-- A page is own in a space where it is mapped there, isn't the page of zeros, and no other space and no other page number
-- reaches it.
pub record IsOwn (forest : Forest) (space page : ℕ) (found : Mapping) : Type 0 where
  pub mapped : map_of forest.keys space page ≡ Some found
  pub real : found.page ≢ 0
  pub alone : (other number : ℕ) (other_found : Mapping) → IsSpace forest [] other → map_of forest.keys other number ≡ Some other_found
      → other_found.page ≡ found.page → (other ≡ space) × (number ≡ page)

-- A key at a place of a node of a height, and all that stands below it: heights fall by one down to pages, and no node is
-- empty.
abbrev pub IsPart : (ℕ → Key) → ℕ → Key → Type 0
IsPart keys zero key = ⊤
IsPart keys (suc height) key =
    FitsUnder (suc height) key
    × ((node : ℕ) → named key ≡ Some (NodeObject node)
    → IsFilled keys node × ((digit : ℕ) → digit < 16 → IsPart keys height (at keys (place_of node digit))))

-- A well-formed space: its root has eight parts, and seven Null keys behind them.
pub record IsWellFormed (keys : ℕ → Key) (space : ℕ) : Type 0 where
  pub parts : (digit : ℕ) → digit < 8 → IsPart keys 5 (at keys (place_of space digit))
  pub unused : (digit : ℕ) → 8 ≤ digit → digit < 15 → at keys (place_of space digit) ≡ Null
