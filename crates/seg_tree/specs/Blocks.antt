-- How many blocks of the store a call may change.
use Rattle.std.specs.Prelude.{◌≤◌, ℕ, List, [], length, ◌++◌}
use Rattle.kernel_tables.specs.Blocks.{ChangesBlocks}

-- No block has changed but these, and some others, which are at most so many.
pub record ChangesBeside (old new : List (List ℕ)) (known : List ℕ) (most : ℕ) : Type 0 where
  pub changed : List ℕ
  pub few : length changed ≤ most
  pub blocks : ChangesBlocks old new (known ++ changed)

-- no more blocks have changed than so many
abbrev pub ChangesAtMost : List (List ℕ) → List (List ℕ) → ℕ → Type 0
ChangesAtMost old new most = ChangesBeside old new [] most
