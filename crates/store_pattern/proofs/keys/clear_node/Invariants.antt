use Rattle.std.proofs.Common.{◌≡◌, ◌*◌, Some, replicate}
use Rattle.kn_base.specs.declared.key.Key.TheVariants.{Null}
use Rattle.kn_base.specs.Rows.{overwritten}
use Rattle.store_pattern.proofs.keys.clear_node.Given as goal

-- so many Null keys so far
abbrev pub invariant-loop-place : goal.invariant-loop-place
invariant-loop-place g l = record {
  cleared :
      g.T.Store.memory l.store
      ≡ record (g.T.Store.memory l.fn.store) { keys = overwritten (g.T.Store.memory l.fn.store).keys (16 * l.node.0) (replicate l.place (Some Null)) };
  kept : g.T.Store.keeps l.fn.store l.store;
}
