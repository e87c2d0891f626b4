use Rattle.kernel_tables.specs.Kernel.{kernel_of}
use Rattle.tests_spaces.specs.Ready.{IsReady, IsTestSpace}
use Rattle.bench_spaces.proofs.rounds.write.Given as goal

-- calls on spaces may be made, and this is one
abbrev pub invariant-loop-round : goal.invariant-loop-round
invariant-loop-round g l = record { ready : IsReady (kernel_of (g.T.Store.memory l.store)); space : IsTestSpace (kernel_of (g.T.Store.memory l.store)) l.space.0.0 }
