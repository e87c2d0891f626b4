use Rattle.kernel_tables.specs.Kernel.{kernel_of}
use Rattle.tests_spaces.specs.Ready.{IsReady, IsTestSpace, KeepsSpaces}
use Rattle.tests_spaces.proofs.rows.fill_sixteen.Given as goal

-- calls on spaces may be made, and each space is one still
abbrev pub invariant-loop-page : goal.invariant-loop-page
invariant-loop-page g l = record {
  ready : IsReady (kernel_of (g.T.Store.memory l.store));
  spaces : KeepsSpaces (kernel_of (g.T.Store.memory l.initial.store)) (kernel_of (g.T.Store.memory l.store));
  stays : IsTestSpace (kernel_of (g.T.Store.memory l.store)) l.space.0.0;
}
