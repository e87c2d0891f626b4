use Rattle.std.proofs.Common.{◌≡◌, replicate}
use Rattle.kn_base.specs.Rows.{overwritten}
use Rattle.kernel_tables.specs.declared.entry.Entry.TheVariants.{Fixed}
use Rattle.kernel_tables.specs.Kernel.{kernel_of}
use Rattle.space_bank.proofs.empty.fix_nodes.Given as goal

-- so many nodes are fixed so far
abbrev pub invariant-loop-n : goal.invariant-loop-n
invariant-loop-n g l = record {
  fixed :
      kernel_of (g.T.Store.memory l.store)
      ≡ record (kernel_of (g.T.Store.memory l.fn.store)) { node_entries = overwritten (kernel_of (g.T.Store.memory l.fn.store)).node_entries 0 (replicate l.n Fixed) };
  kept : g.T.Store.keeps l.fn.store l.store;
}
