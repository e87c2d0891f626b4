use Rattle.std.proofs.Common.{⊎_elim}
use Rattle.kernel_tables.specs.Kernel.{kernel_of}
use Rattle.invoke.specs.Room.{Stays}
use Rattle.invoke.specs.Steps.{Reaches}
use Rattle.tests_invoke.proofs.CallerLaws.{started_runs}
use Rattle.tests_invoke.proofs.answering.serve.Goals as goal

pub ret-requires-clause-runs : goal.ret-requires-clause-runs
ret-requires-clause-runs g c =
    started_runs (kernel_of (g.T.Store.memory c.args.store.now)) (kernel_of (g.T.Store.memory c.fork.new.store)) (record { 0 = 3 }) 9 (Reaches c.in-Ok.field-0.to.0 c.in-Ok.field-0.byte) Stays c.in-Ok.ensures.goes

pub ret-requires-clause-may : goal.ret-requires-clause-may
ret-requires-clause-may g c = (
  c.fork.ensures.alive c.args.root.0 c.requires.alive,
  λ live. (c.fork.ensures.others c.requires.alone c.args.root.0 (λ among. ⊎_elim c.requires.apart (λ none. none) among)).seated c.requires.seated,
)
