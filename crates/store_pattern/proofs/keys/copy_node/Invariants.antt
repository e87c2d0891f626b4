use Rattle.std.proofs.Common.{◌≡◌, ◌*◌}
use Rattle.kn_base.specs.Rows.{part_at, overwritten}
use Rattle.store_pattern.proofs.keys.copy_node.Given as goal

-- so many keys so far
abbrev pub invariant-loop-place : goal.invariant-loop-place
invariant-loop-place g l = record {
  copied :
      g.T.Store.memory l.store
      ≡ record (g.T.Store.memory l.fn.store) { keys = overwritten (g.T.Store.memory l.fn.store).keys (16 * l.to.0) (part_at (g.T.Store.memory l.fn.store).keys (16 * l.from.0) l.place) };
  kept : g.T.Store.keeps l.fn.store l.store;
}
