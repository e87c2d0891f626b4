use Rattle.kernel_tables.specs.Kernel.{kernel_of}
use Rattle.tests_spaces.proofs.Keeping.{added_keeps, added_space}
use Rattle.tests_spaces.proofs.guarded.add_space.Goals as goal

pub returns-clause-spaces : goal.returns-clause-spaces
returns-clause-spaces g c =
    added_keeps (kernel_of (g.T.Store.memory c.args.store.now)) (kernel_of (g.T.Store.memory c.new_space.new.store)) c.new_space.result.0.0
    c.requires.ready.outside c.requires.ready.trees c.new_space.ensures.added

pub returns-clause-added : goal.returns-clause-added
returns-clause-added g c =
    added_space (kernel_of (g.T.Store.memory c.args.store.now)) (kernel_of (g.T.Store.memory c.new_space.new.store)) c.new_space.result.0.0
    c.requires.ready.outside c.requires.ready.trees c.new_space.ensures.added

pub returns-clause-empty : goal.returns-clause-empty
returns-clause-empty g c = (c.new_space.ensures.added.adds c.requires.ready.outside c.requires.ready.trees).1.here
