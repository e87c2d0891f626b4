use Rattle.std.proofs.Common.{◌≡◌}
use Rattle.kernel_tables.specs.Kernel.{kernel_of}
use Rattle.domain.specs.Checks.{KeysInRange}
use Rattle.tests_domain.specs.First.{IsReadable}
use Rattle.tests_domain.proofs.damage.damage_key.Given as goal

abbrev pub invariant-loop-byte : goal.invariant-loop-byte
invariant-loop-byte g l = record {
  readable : IsReadable (kernel_of (g.T.Store.memory l.store));
  in_range : KeysInRange (kernel_of (g.T.Store.memory l.store));
  nodes : (kernel_of (g.T.Store.memory l.store)).nodes ≡ (kernel_of (g.T.Store.memory l.fn.store)).nodes;
}
