use Rattle.std.proofs.Common.{[], ◌∷◌}
use Rattle.kernel_tables.specs.Kernel.{kernel_of}
use Rattle.kernel_tables.specs.Blocks.{key_block}
use Rattle.seg_tree.specs.Blocks.{ChangesBeside}
use Rattle.space_bank.specs.Bank.{BankGood}
use Rattle.kernel_forest.specs.Trees.{forest_of}
use Rattle.kernel_forest.specs.Moves.{Changes}
use Rattle.seg_tree.specs.Steps.{copying}
use Rattle.seg_tree.proofs.steps.copy_keys.Given as goal

-- so many keys so far
abbrev pub invariant-loop-digit : goal.invariant-loop-digit
invariant-loop-digit g l = record {
  copied : Changes (kernel_of (g.T.Store.memory l.fn.store)) (kernel_of (g.T.Store.memory l.store)) (copying (forest_of (kernel_of (g.T.Store.memory l.fn.store))) l.from.0 l.to.0 l.digit) 0;
  good : BankGood (kernel_of (g.T.Store.memory l.store));
  blocks : ChangesBeside (g.T.Store.blocks l.fn.store) (g.T.Store.blocks l.store) (key_block (kernel_of (g.T.Store.memory l.fn.store)).pages l.to.0 ∷ []) l.digit;
  kept : g.T.Store.keeps l.fn.store l.store;
}
