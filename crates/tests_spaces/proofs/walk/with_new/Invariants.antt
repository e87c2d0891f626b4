use Rattle.kernel_tables.specs.Kernel.{kernel_of}
use Rattle.tests_spaces.specs.Ready.{AreSpaces}
use Rattle.tests_spaces.proofs.walk.with_new.Given as goal

-- those so far are spaces
abbrev pub invariant-loop-space : goal.invariant-loop-space
invariant-loop-space g l = AreSpaces (kernel_of (g.T.Store.memory l.store)) l.all.items
