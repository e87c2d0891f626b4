use Rattle.kernel_tables.specs.Kernel.{kernel_of}
use Rattle.tests_spaces.proofs.Walking.{spaces_kept}
use Rattle.tests_spaces.proofs.walk.act_on_one.Goals as goal

pub returns-clause-spaces : goal.returns-clause-spaces
returns-clause-spaces g c =
    spaces_kept (kernel_of (g.T.Store.memory c.args.store.now)) (kernel_of (g.T.Store.memory c.act.new.store)) c.args.spaces.now c.act.ensures.spaces c.requires.spaces
