use Rattle.std.proofs.Common.{subst}
use Rattle.kernel_tables.specs.Kernel.{kernel_of}
use Rattle.unix_model.specs.Tables.{at, with_at}
use Rattle.domain.specs.declared.types.State.TheVariants.{Waiting}
use Rattle.domain.specs.Domains.{lives}
use Rattle.invoke.specs.Room.{Enters}
use Rattle.invoke.specs.Invokes.{Invokes}
use Rattle.invoke.proofs.Composing.{alive_after}
use Rattle.invoke.proofs.Reaching.{domain_enters}
use Rattle.invoke.proofs.Seated.{caller_seated}
use Rattle.invoke.proofs.calls.wait.Goals as goal

pub returns-clause-invokes : goal.returns-clause-invokes
returns-clause-invokes g c =
    let old = kernel_of (g.T.Store.memory c.args.store.now) in
    let new = kernel_of (g.T.Store.memory c.set_life.new.store) in
    subst (λ n. Invokes old new (with_at (lives old) c.args.root.0 (record { state = Waiting; count = n })) (Enters c.args.root.0 n)) c.count_of-count.ensures
    (c.set_life.ensures.goes_on old (lives old) (Enters c.args.root.0 c.count_of-count.result)
    (domain_enters old (kernel_of (g.T.Store.memory c.enter_room.new.store)) c.args.root c.args.slot c.count_of-count.result c.requires.caller.own c.requires.runs c.requires.caller.seated c.enter_room.ensures.seats))

pub returns-clause-seated : goal.returns-clause-seated
returns-clause-seated g c =
    let old = kernel_of (g.T.Store.memory c.args.store.now) in
    caller_seated old (kernel_of (g.T.Store.memory c.set_life.new.store)) c.args.root.0 (at (lives old) c.args.root.0).count (returns-clause-invokes g c) c.requires.caller.seated

pub returns-clause-alive : goal.returns-clause-alive
returns-clause-alive g c = λ other has.
    let old = kernel_of (g.T.Store.memory c.args.store.now) in
    alive_after old (kernel_of (g.T.Store.memory c.set_life.new.store)) (with_at (lives old) c.args.root.0 (record { state = Waiting; count = (at (lives old) c.args.root.0).count }))
    (Enters c.args.root.0 (at (lives old) c.args.root.0).count) other (returns-clause-invokes g c) has
