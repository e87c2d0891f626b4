-- Releasing keys: each step looks at the first key in hand.
use Rattle.std.specs.Prelude.{◌≡◌, ◌⊎◌, ◌<◌, ◌≤◌, ◌-◌, ℕ, Some, None, List, ◌∷◌}
use Rattle.kn_base.specs.declared.key.Key.{Key}
use Rattle.kn_base.specs.declared.key.Key.TheVariants.{Null}
use Rattle.unix_model.specs.Tables.{at}
use Rattle.forest.specs.Objects.{Object, PageObject, NodeObject, named}
use Rattle.forest.specs.Walks.{place_of}
use Rattle.forest.specs.Forest.{Forest}
use Rattle.forest.specs.Changes.{with_count, with_key, with_given}

-- One step of releasing the first key in hand. A key that names nothing goes. Where what it names is counted more than
-- once, the count is lowered and the key goes. A page that is counted once is given back. A node that is counted once has
-- its keys taken out into the hand, one after another, and is given back once it has none.
pub data ReleaseStep : Forest → List Key → Forest → List Key → Type 0 where
  nothing : {forest : Forest} {hand : List Key} (key : Key) → named key ≡ None → ReleaseStep forest (key ∷ hand) forest hand
  shared : {forest : Forest} {hand : List Key} (key : Key) (object : Object) → named key ≡ Some object → 2 ≤ forest.count object
      → ReleaseStep forest (key ∷ hand) (with_count forest object (forest.count object - 1)) hand
  page : {forest : Forest} {hand : List Key} (key : Key) (page : ℕ) → named key ≡ Some (PageObject page) → forest.count (PageObject page) ≡ 1
      → ReleaseStep forest (key ∷ hand) (with_given forest (PageObject page)) hand
  take_out : {forest : Forest} {hand : List Key} (key : Key) (node digit : ℕ) → named key ≡ Some (NodeObject node) → forest.count (NodeObject node) ≡ 1
      → digit < 16
      → ReleaseStep forest (key ∷ hand) (with_key forest (place_of node digit) Null) (at forest.keys (place_of node digit) ∷ key ∷ hand)
  empty_node : {forest : Forest} {hand : List Key} (key : Key) (node : ℕ) → named key ≡ Some (NodeObject node) → forest.count (NodeObject node) ≡ 1
      → ((digit : ℕ) → digit < 16 → at forest.keys (place_of node digit) ≡ Null)
      → ReleaseStep forest (key ∷ hand) (with_given forest (NodeObject node)) hand

-- any number of steps
pub data Release : Forest → List Key → Forest → List Key → Type 0 where
  done : {forest : Forest} {hand : List Key} → Release forest hand forest hand
  more : {old next new : Forest} {old_hand next_hand new_hand : List Key}
      → ReleaseStep old old_hand next next_hand → Release next next_hand new new_hand → Release old old_hand new new_hand

-- keys have been taken away, and none was written; counts have fallen, or are as they were
pub record Thins (old new : Forest) : Type 0 where
  pub keys : (place : ℕ) → (at new.keys place ≡ at old.keys place) ⊎ (at new.keys place ≡ Null)
  pub counts : (object : Object) → new.count object ≤ old.count object
