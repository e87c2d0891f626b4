use Rattle.kernel_tables.specs.Kernel.{kernel_of}
use Rattle.pipe_domain.specs.Pipes.{PipeGood}
use Rattle.tests_pipes.proofs.pipes.walk.Given as goal

abbrev pub invariant-walking : goal.invariant-walking
invariant-walking g l = PipeGood (kernel_of (g.T.Store.memory l.store)) l.pipe
