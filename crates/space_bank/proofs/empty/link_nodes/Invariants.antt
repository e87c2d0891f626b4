use Rattle.std.proofs.Common.{◌≡◌, ◌-◌}
use Rattle.kn_base.specs.Rows.{overwritten}
use Rattle.kernel_tables.specs.Kernel.{kernel_of}
use Rattle.space_bank.specs.Setup.{free_entries}
use Rattle.space_bank.proofs.empty.link_nodes.Given as goal

-- the nodes below n are linked so far
abbrev pub invariant-loop-n : goal.invariant-loop-n
invariant-loop-n g l = record {
  linked :
      kernel_of (g.T.Store.memory l.store)
      ≡ record (kernel_of (g.T.Store.memory l.fn.store)) { node_entries = overwritten (kernel_of (g.T.Store.memory l.fn.store)).node_entries 15 (free_entries 0 l.nodes 15 (l.n - 15)) };
  kept : g.T.Store.keeps l.fn.store l.store;
}
