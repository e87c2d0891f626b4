use Rattle.std.proofs.Common.{◌≡◌}
use Rattle.kernel_tables.specs.Kernel.{kernel_of}
use Rattle.space_bank.specs.Setup.{with_service_roots}
use Rattle.space_bank.proofs.empty.set_service_roots.Given as goal

-- so many services have their root so far
abbrev pub invariant-loop-others : goal.invariant-loop-others
invariant-loop-others g l = record {
  rooted :
      kernel_of (g.T.Store.memory l.store)
      ≡ record (kernel_of (g.T.Store.memory l.fn.store)) { keys = with_service_roots (kernel_of (g.T.Store.memory l.fn.store)).keys l.others };
  kept : g.T.Store.keeps l.fn.store l.store;
}
