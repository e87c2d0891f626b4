use Rattle.kernel_tables.specs.Kernel.{kernel_of}
use Rattle.tests_spaces.proofs.Keeping.{hand_over, dropped_ready, dropped_keeps}
use Rattle.tests_spaces.proofs.guarded.drop_one.Goals as goal

pub drop_space-requires-clause-trees : goal.drop_space-requires-clause-trees
drop_space-requires-clause-trees g c = hand_over (kernel_of (g.T.Store.memory c.args.store.now)) c.args.space.0.0 c.requires.ready c.requires.space

pub returns-clause-ready : goal.returns-clause-ready
returns-clause-ready g c =
    dropped_ready (kernel_of (g.T.Store.memory c.args.store.now)) (kernel_of (g.T.Store.memory c.drop_space.new.store)) c.args.space.0.0
    c.requires.ready c.requires.space c.drop_space.ensures.good c.drop_space.ensures.dropped

pub returns-clause-others : goal.returns-clause-others
returns-clause-others g c =
    dropped_keeps (kernel_of (g.T.Store.memory c.args.store.now)) (kernel_of (g.T.Store.memory c.drop_space.new.store)) c.args.space.0.0
    c.requires.ready c.requires.space c.drop_space.ensures.dropped
