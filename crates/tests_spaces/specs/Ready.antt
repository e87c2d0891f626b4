-- What calls on spaces ask of a store, and what they leave of it.
use Rattle.std.specs.Prelude.{◌≡◌, ◌≢◌, ◌*◌, ℕ, List, [], All, length}
use Rattle.kn_base.specs.Memory.{zero_page}
use Rattle.kernel_tables.specs.Kernel.{Kernel, Sized}
use Rattle.space_bank.specs.Bank.{BankGood}
use Rattle.space_bank.specs.Shares.{Outside, nothing_outside}
use Rattle.forest.specs.Objects.{NodeObject}
use Rattle.forest.specs.Forest.{IsSpace}
use Rattle.kernel_forest.specs.Trees.{forest_of, outside_trees, TreesGood}
use Rattle.seg_tree.specs.declared.spaces.Space.{Space}

-- calls on spaces may be made
pub record IsReady (kernel : Kernel) : Type 0 where
  pub good : BankGood kernel
  pub zero : kernel.page_zero ≡ zero_page
  pub outside : Outside
  pub trees : TreesGood kernel outside []

-- A space that no key of a node names. So its one key is outside, and whoever has it may drop the space.
pub record IsTestSpace (kernel : Kernel) (space : ℕ) : Type 0 where
  pub is_space : IsSpace (forest_of kernel) [] space
  pub alone : outside_trees kernel nothing_outside (NodeObject space) ≡ 0

-- every space is one still
pub record KeepsSpaces (old new : Kernel) : Type 0 where
  pub stay : (space : ℕ) → IsTestSpace old space → IsTestSpace new space

-- every space but one is one still
pub record KeepsOthers (old new : Kernel) (gone : ℕ) : Type 0 where
  pub stay : (space : ℕ) → space ≢ gone → IsTestSpace old space → IsTestSpace new space

-- each of these is a space
abbrev pub AreSpaces : Kernel → List Space → Type 0
AreSpaces kernel spaces = All (λ (space : Space). IsTestSpace kernel space.0.0) spaces

-- each of these is a space, unless it is one that has gone
abbrev pub AreSpacesBut : Kernel → ℕ → List Space → Type 0
AreSpacesBut kernel gone spaces = All (λ (space : Space). space.0.0 ≢ gone → IsTestSpace kernel space.0.0) spaces

-- the keys of nodes may be read, whatever they say
pub record IsReadable (kernel : Kernel) : Type 0 where
  pub sized : Sized kernel
  pub all_keys : length kernel.keys ≡ 16 * kernel.nodes
