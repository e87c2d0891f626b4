use Rattle.std.proofs.Common.{sym, refl, ◌∙◌}
use Rattle.kernel_tables.specs.Kernel.{kernel_of}
use Rattle.domain.specs.declared.types.State.TheVariants.{Running, Waiting}
use Rattle.domain.specs.Domains.{lives}
use Rattle.invoke.specs.Room.{Stays}
use Rattle.invoke.proofs.Composing.{stays}
use Rattle.invoke.proofs.Reaching.{start_goes, start_refused}
use Rattle.invoke.proofs.Seated.{started_seated}
use Rattle.invoke.proofs.reach.start.Goals as goal

pub returns-in-Available-clause-goes : goal.returns-in-Available-clause-goes
returns-in-Available-clause-goes g c =
    let old = kernel_of (g.T.Store.memory c.args.store.now) in
    start_goes old (kernel_of (g.T.Store.memory c.set_life.new.store)) c.args.root c.args.byte c.count_of-count.result
    (sym c.in-Available.is ∙ c.state_of.ensures) c.count_of-count.ensures (c.set_life.ensures.goes_on old (lives old) Stays (stays old))

pub returns-in-Running-clause-refused : goal.returns-in-Running-clause-refused
returns-in-Running-clause-refused g c = start_refused (kernel_of (g.T.Store.memory c.args.store.now)) c.args.root c.args.byte Running refl (sym c.in-Running.is ∙ c.state_of.ensures)

pub returns-in-Waiting-clause-refused : goal.returns-in-Waiting-clause-refused
returns-in-Waiting-clause-refused g c = start_refused (kernel_of (g.T.Store.memory c.args.store.now)) c.args.root c.args.byte Waiting refl (sym c.in-Waiting.is ∙ c.state_of.ensures)

pub returns-in-Available-clause-seated : goal.returns-in-Available-clause-seated
returns-in-Available-clause-seated g c = λ seated.
    let old = kernel_of (g.T.Store.memory c.args.store.now) in
    started_seated old (kernel_of (g.T.Store.memory c.set_life.new.store)) c.args.root.0 c.count_of-count.result
    (sym c.in-Available.is ∙ c.state_of.ensures) (c.set_life.ensures.goes_on old (lives old) Stays (stays old)) seated
