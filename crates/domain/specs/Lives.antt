-- The life of a root: whether it may be called, runs or waits, and how many of its calls were answered.
use Rattle.std.specs.Prelude.{◌≡◌, ◌≤◌, ◌⊎◌, ℕ, true, List}
use Rattle.kn_base.specs.declared.key.Key.{Key}
use Rattle.kernel_tables.specs.Kernel.{Kernel}
use Rattle.kernel_tables.specs.Rows.{fixed_rows}
use Rattle.space_bank.specs.Bank.{BankGood}
use Rattle.space_bank.specs.Fixed.{FixedNodes}
use Rattle.space_bank.specs.Shares.{Outside, Shares}
use Rattle.kernel_forest.specs.Trees.{forest_of, outside_trees}
use Rattle.unix_model.specs.Tables.{at}
use Rattle.domain.specs.Domains.{domains, roots}
use Rattle.domain.specs.Rules.{NumberFits}

-- A service has one of the fixed nodes 1 to 6, whose key 6 is a number that may stand there.
pub record IsService (fixed : ℕ → ℕ → Key) (root : ℕ) : Type 0 where
  pub low : 1 ≤ root
  pub high : root ≤ 6
  pub fits : NumberFits 6 (fixed root 6)

-- the root of a domain, or of a service
abbrev pub HasLife : Kernel → ℕ → Type 0
HasLife kernel root = ((at (domains kernel) root).live ≡ true) ⊎ IsService (fixed_rows kernel) root

-- The key with the life of a root was written. All tables but the one of keys are as they were, and so are the trees, what names
-- them from outside, the slot table, all other keys of fixed nodes, and how often anything is named.
pub record SetsLife (old new : Kernel) (root : ℕ) (key : Key) : Type 0 where
  pub rest : new ≡ record old { keys = new.keys }
  pub forest_now : forest_of new ≡ forest_of old
  pub outside_now : (outside : Outside) → outside_trees new outside ≡ outside_trees old outside
  pub roots_now : roots new ≡ roots old
  pub fixed_now : (node place : ℕ) → (node ≡ root → place ≡ 6 → ⊥) → fixed_rows new node place ≡ fixed_rows old node place
  pub service_now : IsService (fixed_rows old) root → fixed_rows new root 6 ≡ key
  pub services_now : (service : ℕ) → IsService (fixed_rows old) service → IsService (fixed_rows new) service
  pub shares : (outside : Outside) (hand : List Key) → Shares old outside hand → Shares new outside hand

-- Where the fixed nodes hold what they have to between turns, all services are there.
abbrev pub ServicesAreThere : Type 0
ServicesAreThere = (kernel : Kernel) (service : ℕ) → BankGood kernel → FixedNodes kernel.keys → 1 ≤ service → service ≤ 6 → IsService (fixed_rows kernel) service
