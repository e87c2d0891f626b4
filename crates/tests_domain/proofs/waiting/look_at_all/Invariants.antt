use Rattle.kernel_tables.specs.Kernel.{kernel_of}
use Rattle.domain.specs.Checks.{KeysInRange}
use Rattle.tests_domain.specs.First.{IsReadable}
use Rattle.tests_domain.proofs.waiting.look_at_all.Given as goal

abbrev pub invariant-loop-case : goal.invariant-loop-case
invariant-loop-case g l = record {
  readable : IsReadable (kernel_of (g.T.Store.memory l.store));
  in_range : KeysInRange (kernel_of (g.T.Store.memory l.store));
}
