use Rattle.std.proofs.Common.{◌+◌, ◌%◌, ◌^◌}
use Rattle.kernel_tables.specs.Kernel.{kernel_of}
use Rattle.unix_model.specs.Tables.{at}
use Rattle.domain.specs.Domains.{lives}
use Rattle.invoke.specs.Room.{leaving}
use Rattle.invoke.proofs.Reaching.{awaited, resume_goes, resume_refused}
use Rattle.invoke.proofs.Seated.{resumed_seated}
use Rattle.invoke.proofs.reach.resume.Goals as goal

pub returns-then-is_awaited-clause-goes : goal.returns-then-is_awaited-clause-goes
returns-then-is_awaited-clause-goes g c =
    let old = kernel_of (g.T.Store.memory c.args.store.now) in
    let life = at (lives old) c.args.root.0 in
    let both = awaited life.state life.count c.args.count c.is_awaited.result c.is_awaited.ensures c.if-is_awaited.true in
    resume_goes old (kernel_of (g.T.Store.memory c.set_life.new.store)) c.args.root c.args.count both.0 both.1
    (c.set_life.ensures.goes_on old (lives old) (leaving old c.args.root.0 life.count) c.free_place.ensures.invokes)

pub returns-else-is_awaited-clause-refused : goal.returns-else-is_awaited-clause-refused
returns-else-is_awaited-clause-refused g c =
    resume_refused (kernel_of (g.T.Store.memory c.args.store.now)) c.args.root c.args.count c.is_awaited.result c.is_awaited.ensures c.if-is_awaited.false

pub returns-then-is_awaited-clause-seated : goal.returns-then-is_awaited-clause-seated
returns-then-is_awaited-clause-seated g c = λ seated.
    let old = kernel_of (g.T.Store.memory c.args.store.now) in
    let own = (at (lives old) c.args.root.0).count in
    resumed_seated old (kernel_of (g.T.Store.memory c.set_life.new.store)) c.args.root.0 own ((c.args.count + 1) % 2 ^ 64)
    (c.set_life.ensures.goes_on old (lives old) (leaving old c.args.root.0 own) c.free_place.ensures.invokes) seated
