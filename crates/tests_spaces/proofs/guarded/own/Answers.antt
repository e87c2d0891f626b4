use Rattle.std.proofs.Common.{sym, subst}
use Rattle.kernel_tables.specs.Kernel.{kernel_of}
use Rattle.tests_spaces.specs.Ready.{IsReady}
use Rattle.tests_spaces.proofs.Keeping.{owned_ready, changed_keeps, same_keeps}
use Rattle.tests_spaces.proofs.guarded.own.Goals as goal

pub returns-in-Some-clause-ready : goal.returns-in-Some-clause-ready
returns-in-Some-clause-ready g c =
    owned_ready (kernel_of (g.T.Store.memory c.args.store.now)) (kernel_of (g.T.Store.memory c.writable.new.store)) c.args.space.0.0 c.args.page c.in-Some.id.0 c.page_owner-owner.result
    c.requires.ready c.writable.ensures.good c.in-Some.ensures.written

pub returns-in-None-clause-ready : goal.returns-in-None-clause-ready
returns-in-None-clause-ready g c = subst IsReady (sym c.in-None.ensures.written.1) c.requires.ready

pub returns-in-Some-clause-spaces : goal.returns-in-Some-clause-spaces
returns-in-Some-clause-spaces g c =
    changed_keeps (kernel_of (g.T.Store.memory c.args.store.now)) (kernel_of (g.T.Store.memory c.writable.new.store)) c.args.space.0.0 _ c.in-Some.ensures.written.outside_now
    (c.in-Some.ensures.written.changes c.requires.ready.outside c.requires.ready.trees).1

pub returns-in-Some-clause-stays : goal.returns-in-Some-clause-stays
returns-in-Some-clause-stays g c =
    (changed_keeps (kernel_of (g.T.Store.memory c.args.store.now)) (kernel_of (g.T.Store.memory c.writable.new.store)) c.args.space.0.0 _ c.in-Some.ensures.written.outside_now
    (c.in-Some.ensures.written.changes c.requires.ready.outside c.requires.ready.trees).1).stay c.args.space.0.0 c.requires.space

pub returns-in-None-clause-spaces : goal.returns-in-None-clause-spaces
returns-in-None-clause-spaces g c = same_keeps (kernel_of (g.T.Store.memory c.args.store.now)) (kernel_of (g.T.Store.memory c.writable.new.store)) c.in-None.ensures.written.1

pub returns-in-None-clause-stays : goal.returns-in-None-clause-stays
returns-in-None-clause-stays g c =
    (same_keeps (kernel_of (g.T.Store.memory c.args.store.now)) (kernel_of (g.T.Store.memory c.writable.new.store)) c.in-None.ensures.written.1).stay c.args.space.0.0 c.requires.space
