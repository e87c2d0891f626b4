use Rattle.kernel_tables.specs.Kernel.{kernel_of}
use Rattle.tests_spaces.proofs.Keeping.{root_below}
use Rattle.tests_spaces.proofs.walk.is_well.Goals as goal

pub check_space-requires-clause-node : goal.check_space-requires-clause-node
check_space-requires-clause-node g c = root_below (kernel_of (g.T.Store.memory c.args.store.now)) c.args.space.0.0 c.requires.ready c.requires.space
