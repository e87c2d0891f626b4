-- What the calls that write in a domain leave.
use Rattle.std.specs.Prelude.{◌≡◌, ℕ, ◌<◌, ◌*◌, ◌/◌, ◌%◌, true, Option, Some, None, List, [], ◌∷◌}
use Rattle.kn_base.specs.declared.key.Key.{Key}
use Rattle.kn_base.specs.declared.key.NodeId.{NodeId}
use Rattle.kernel_tables.specs.Kernel.{Kernel}
use Rattle.kernel_tables.specs.Rows.{fixed_rows}
use Rattle.kernel_tables.specs.Blocks.{key_block}
use Rattle.space_bank.specs.Laws.{and_outside}
use Rattle.space_bank.specs.Shares.{Outside, Shares}
use Rattle.kernel_forest.specs.Trees.{forest_of, outside_trees}
use Rattle.unix_model.specs.Tables.{with_at}
use Rattle.domain.specs.Keys.{is_number, node_in, word_in}

-- the number of a node, if there is one
abbrev pub number_in : Option NodeId → Option ℕ
number_in None = None
number_in (Some node) = Some node.0

-- the blocks of the keys of a node, if there is one
abbrev pub node_blocks : ℕ → Option ℕ → List ℕ
node_blocks pages None = []
node_blocks pages (Some node) = key_block pages node ∷ []

-- Numbers were written in nodes of domains. All tables but the one of keys are as they were, and so are the trees, what names
-- them from outside, the keys of fixed nodes, and how often anything is named.
pub record WritesNumbers (old new : Kernel) : Type 0 where
  pub rest : new ≡ record old { keys = new.keys }
  pub forest_now : forest_of new ≡ forest_of old
  pub outside_now : (outside : Outside) → outside_trees new outside ≡ outside_trees old outside
  pub fixed_now : fixed_rows new ≡ fixed_rows old
  pub shares : (outside : Outside) (hand : List Key) → Shares old outside hand → Shares new outside hand

-- A key was written in a node of a domain, in place of another one. The trees are as they were. What names them from outside is
-- as before, if both keys are counted in: so a key that was outside, or in hand, is the domain's now, and the one that it had is
-- outside, or in hand.
pub record HandsOver (old new : Kernel) (key was : Key) : Type 0 where
  pub rest : new ≡ record old { keys = new.keys }
  pub forest_now : forest_of new ≡ forest_of old
  pub outside_now : (outside : Outside) → outside_trees new (and_outside outside was) ≡ outside_trees old (and_outside outside key)
  pub fixed_now : fixed_rows new ≡ fixed_rows old
  pub shares : (outside : Outside) (hand : List Key) → Shares old outside (key ∷ hand) → Shares new outside (was ∷ hand)

-- The first keys of a node are numbers with these words, and each of its keys names the node that it named before. All other
-- rows are as they were.
pub record HoldsWords (rows new : ℕ → ℕ → Key) (node : ℕ) (words : ℕ → ℕ) (count : ℕ) : Type 0 where
  pub now : ℕ → Key
  pub is : new ≡ with_at rows node now
  pub names : (place : ℕ) → node_in (now place) ≡ node_in (rows node place)
  pub numbers : (place : ℕ) → place < 11 → is_number (now place) ≡ true
  pub holds : (n : ℕ) → n < 3 * count → word_in (now (n / 3)) (n % 3) ≡ words n
