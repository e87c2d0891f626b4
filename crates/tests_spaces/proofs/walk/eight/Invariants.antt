use Rattle.kernel_tables.specs.Kernel.{kernel_of}
use Rattle.tests_spaces.specs.Ready.{AreSpaces, IsReady}
use Rattle.tests_spaces.proofs.walk.eight.Given as goal

-- calls on spaces may be made, and these are spaces
abbrev pub invariant-loop-number : goal.invariant-loop-number
invariant-loop-number g l = record {
  ready : IsReady (kernel_of (g.T.Store.memory l.store));
  spaces : AreSpaces (kernel_of (g.T.Store.memory l.store)) l.spaces.items;
}
