-- Changes of a forest: counts, owners and keys, one at a time, and what is made of them.
use Rattle.std.specs.Prelude.{◌≡◌, ◌≢◌, ◌<◌, ◌≤◌, ◌+◌, ◌-◌, ◌/◌, ◌%◌, ℕ, ◌==◌, if◌then◌else◌, Option, Some, None, IsSome, List}
use Rattle.kn_base.specs.declared.key.Key.{Key}
use Rattle.kn_base.specs.declared.key.Key.TheVariants.{Segment}
use Rattle.unix_model.specs.Tables.{at, with_at, count_below}
use Rattle.forest.specs.Objects.{Object, NodeObject, Owner, named, names, with_object}
use Rattle.forest.specs.Walks.{key_below, place_of}
use Rattle.forest.specs.Forest.{Forest, in_hand, IsSpace, FitsBelow, FitsUnder, key_height}

-- the forest with another stored count of an object
abbrev pub with_count : Forest → Object → ℕ → Forest
with_count forest object count = record forest { count = with_object forest.count object count }

-- the forest with a key written at a place
abbrev pub with_key : Forest → ℕ → Key → Forest
with_key forest place key = record forest { keys = with_at forest.keys place key }

-- the object that is there, if one is, is counted once more, or once less
abbrev pub counted_more : Forest → Option Object → Forest
counted_more forest None = forest
counted_more forest (Some object) = with_count forest object (forest.count object + 1)

abbrev pub counted_less : Forest → Option Object → Forest
counted_less forest None = forest
counted_less forest (Some object) = with_count forest object (forest.count object - 1)

-- what a key names is counted once more, or once less
abbrev pub raised : Forest → Key → Forest
raised forest key = counted_more forest (named key)

abbrev pub lowered : Forest → Key → Forest
lowered forest key = counted_less forest (named key)

-- a fresh object, which is counted once
abbrev pub with_taken : Forest → Object → Owner → Forest
with_taken forest object owner =
    record forest { owner = with_object forest.owner object (Some owner); count = with_object forest.count object 1 }

-- an object that is given back
abbrev pub with_given : Forest → Object → Forest
with_given forest object =
    record forest { owner = with_object forest.owner object None; count = with_object forest.count object 0 }

-- what names objects from outside, and one key more
unfoldable pub and_outside : (Object → ℕ) → Key → Object → ℕ
and_outside outside key object = outside object + (if names object key then 1 else 0)

-- the keys, with these sixteen in a node
unfoldable pub filled : (ℕ → Key) → ℕ → (ℕ → Key) → ℕ → Key
filled keys node content place = if place / 16 == node then content (place % 16) else at keys place

-- The keys after a fresh node of a height was put at a place. It has the keys of the node that stood there, or Null keys
-- where none did.
abbrev pub with_fresh : (ℕ → Key) → ℕ → ℕ → ℕ → ℕ → Key
with_fresh keys place fresh height =
    with_at (filled keys fresh (key_below keys (at keys place))) place (Segment (record { 0 = fresh }) height)

-- an object that belongs to no tree, and that nothing outside and no key in hand names
pub record IsFree (forest : Forest) (outside : Object → ℕ) (hand : List Key) (object : Object) : Type 0 where
  pub unowned : forest.owner object ≡ None
  pub none_outside : outside object ≡ 0
  pub none_in_hand : in_hand hand object ≡ 0

-- how often an object is counted after a node that stood at a place was copied: once less at the place, and once more for
-- each of the sixteen keys that name it
unfoldable pub copied_count : Forest → ℕ → Object → ℕ
copied_count forest place object =
    forest.count object - (if names object (at forest.keys place) then 1 else 0)
    + count_below (λ digit. names object (key_below forest.keys (at forest.keys place) digit)) 16

-- The forest after a fresh node of a height was put at a place: a copy of the node that stood there, whose keys are all
-- counted once more, or an empty node where none stood.
abbrev pub with_copy : Forest → ℕ → ℕ → ℕ → Owner → Forest
with_copy forest place fresh height owner = record forest {
  keys = with_fresh forest.keys place fresh height;
  owner = with_object forest.owner (NodeObject fresh) (Some owner);
  count = with_object (copied_count forest place) (NodeObject fresh) 1;
}

-- A key may stand at a place of a node that belongs to a tree: its height fits the node's, whatever key stands for the node,
-- and in a root it stands at one of the first eight places.
pub record MayStand (forest : Forest) (hand : List Key) (place : ℕ) (key : Key) : Type 0 where
  pub node_owned : IsSome (forest.owner (NodeObject (place / 16)))
  pub low : key_height key < 5
  pub fits : (upper : ℕ) → named (at forest.keys upper) ≡ Some (NodeObject (place / 16)) → FitsBelow (at forest.keys upper) key
  pub not_itself : named key ≢ Some (NodeObject (place / 16))
  pub root : IsSpace forest hand (place / 16) → (place % 16 < 8) × FitsUnder 5 key

-- what hangs on a key belongs with a place: the same owner, and heights that fall
pub record BelongsAt (forest : Forest) (place : ℕ) (key : Key) : Type 0 where
  pub same_owner : (object : Object) → named key ≡ Some object → forest.owner object ≡ forest.owner (NodeObject (place / 16))
  pub heights : (digit : ℕ) → digit < 16 → FitsBelow key (key_below forest.keys key digit)

-- A space was one before, with what was in hand then, and its root has the owner and the keeper's key that it had.
pub record KeepsRoot (old new : Forest) (hand : List Key) (space : ℕ) : Type 0 where
  pub was : IsSpace old hand space
  pub owner : new.owner (NodeObject space) ≡ old.owner (NodeObject space)
  pub keeper : at new.keys (place_of space 15) ≡ at old.keys (place_of space 15)

-- A fresh root was added: it belongs to a tree and has these sixteen keys, of which the last eight name nothing, and all
-- else has stayed.
pub record WithRoot (old new : Forest) (fresh : ℕ) (content : ℕ → Key) : Type 0 where
  pub was_free : old.owner (NodeObject fresh) ≡ None
  pub now_owned : IsSome (new.owner (NodeObject fresh))
  pub same_owners : (object : Object) → object ≢ NodeObject fresh → new.owner object ≡ old.owner object
  pub keys : new.keys ≡ filled old.keys fresh content
  pub rest : (digit : ℕ) → 8 ≤ digit → digit < 16 → named (content digit) ≡ None
