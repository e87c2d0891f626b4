use Rattle.std.proofs.Common.{◌≡◌, ◌*◌, Some, replicate, [], ◌∷◌}
use Rattle.kn_base.specs.declared.key.Key.TheVariants.{Null}
use Rattle.kn_base.specs.Rows.{overwritten}
use Rattle.kernel_tables.specs.Kernel.{kernel_of}
use Rattle.kernel_tables.specs.Blocks.{key_block, ChangesBlocks}
use Rattle.space_bank.proofs.nodes.clear_keys.Given as goal

-- so many Null keys so far
abbrev pub invariant-loop-place : goal.invariant-loop-place
invariant-loop-place g l = record {
  cleared :
      kernel_of (g.T.Store.memory l.store)
      ≡ record (kernel_of (g.T.Store.memory l.fn.store)) { keys = overwritten (kernel_of (g.T.Store.memory l.fn.store)).keys (16 * l.node.0) (replicate l.place (Some Null)) };
  kept : g.T.Store.keeps l.fn.store l.store;
  blocks : ChangesBlocks (g.T.Store.blocks l.fn.store) (g.T.Store.blocks l.store) (key_block (kernel_of (g.T.Store.memory l.fn.store)).pages l.node.0 ∷ []);
}
