-- How a node in hand is emptied: its keys are taken out, one after another, and released.
use Rattle.std.specs.Prelude.{◌⊎◌, ◌≡◌, ℕ, ◌-◌, ◌<◌, ◌≤◌, Option, Some, None, List, [], ◌∷◌}
use Rattle.kn_base.specs.declared.key.Key.{Key}
use Rattle.kn_base.specs.declared.key.Key.TheVariants.{Null, Segment}
use Rattle.kn_base.specs.declared.key.NodeId.{NodeId}
use Rattle.kernel_tables.specs.Kernel.{Kernel}
use Rattle.unix_model.specs.Tables.{at}
use Rattle.forest.specs.Objects.{NodeObject, named}
use Rattle.forest.specs.Walks.{place_of}
use Rattle.forest.specs.Forest.{FitsUnder}
use Rattle.kernel_forest.specs.Trees.{forest_of, IsTreeKey}
use Rattle.kernel_forest.specs.Releases.{Lets}

-- a key that may leave a node of a height: it fits, or names nothing
abbrev pub Leaves : ℕ → Key → Type 0
Leaves height key = FitsUnder height key ⊎ ((named key ≡ None) × IsTreeKey key)

-- what is in hand after a key was taken out of a node in hand
abbrev pub out_keys : Option NodeId → NodeId → ℕ → List Key
out_keys None node height = Segment node height ∷ []
out_keys (Some child) node height = Segment child (height - 1) ∷ Segment node height ∷ []

-- A key was taken out of a node in hand: a page's was released, a node's is in hand.
pub record TakesOut (old new : Kernel) (node : NodeId) (digit height : ℕ) (out : Option NodeId) : Type 0 where
  pub lets : Lets old new (Segment node height ∷ []) (out_keys out node height)
  pub null : at (forest_of new).keys (place_of node.0 digit) ≡ Null
  pub high : (child : NodeId) → out ≡ Some child → 2 ≤ height
  pub fits : (child : NodeId) → out ≡ Some child → (d : ℕ) → d < 16 → Leaves (height - 1) (at (forest_of new).keys (place_of child.0 d))

-- So many keys have been taken out of a node in hand, which is counted once, and those that are left fit its height.
pub record Empties (old new : Kernel) (node : NodeId) (digit height : ℕ) : Type 0 where
  pub lets : Lets old new (Segment node height ∷ []) (Segment node height ∷ [])
  pub nulls : (d : ℕ) → d < digit → at (forest_of new).keys (place_of node.0 d) ≡ Null
  pub fits : (d : ℕ) → d < 16 → Leaves height (at (forest_of new).keys (place_of node.0 d))
  pub once : (forest_of new).count (NodeObject node.0) ≡ 1
