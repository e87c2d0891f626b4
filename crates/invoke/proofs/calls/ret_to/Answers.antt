use Rattle.kernel_tables.specs.Kernel.{kernel_of}
use Rattle.invoke.specs.Invokes.{seat_of}
use Rattle.invoke.specs.Steps.{Reaches}
use Rattle.invoke.proofs.Leaving.{return_leaves}
use Rattle.invoke.proofs.Reaching.{return_goes, return_refused}
use Rattle.invoke.proofs.calls.ret_to.Goals as goal

pub returns-in-Ok-clause-goes : goal.returns-in-Ok-clause-goes
returns-in-Ok-clause-goes g c =
    let old = kernel_of (g.T.Store.memory c.args.store.now) in
    let goes = c.in-Ok.ensures.goes in
    return_goes old (kernel_of (g.T.Store.memory c.fork.new.store)) (kernel_of (g.T.Store.memory c.set_life.new.store)) c.args.from.0 c.in-Ok.delivered.to.0 c.in-Ok.delivered.byte c.count_of-count.result c.args.to
    (seat_of old c.args.to) c.requires.other goes c.count_of-count.ensures (c.set_life.ensures.goes_on old goes.now (seat_of old c.args.to) goes.invokes)

pub returns-in-Err-clause-refused : goal.returns-in-Err-clause-refused
returns-in-Err-clause-refused g c =
    return_refused (kernel_of (g.T.Store.memory c.args.store.now)) c.args.from.0 c.args.to c.in-Err.fault c.requires.other c.in-Err.ensures.refused

pub returns-in-Ok-clause-others : goal.returns-in-Ok-clause-others
returns-in-Ok-clause-others g c =
    return_leaves (kernel_of (g.T.Store.memory c.args.store.now)) (kernel_of (g.T.Store.memory c.set_life.new.store)) c.args.from.0 c.args.to (Reaches c.in-Ok.delivered.to.0 c.in-Ok.delivered.byte)
    (returns-in-Ok-clause-goes g c)
