use Rattle.kernel_tables.specs.Kernel.{kernel_of}
use Rattle.invoke.specs.Parking.{object_word}
use Rattle.tests_invoke.proofs.PeopleLaws.{all_marked}
use Rattle.tests_invoke.proofs.people.wake_all.Goals as goal

pub returns-clause-peopled : goal.returns-clause-peopled
returns-clause-peopled g c =
    all_marked (kernel_of (g.T.Store.memory c.args.store.now)) (kernel_of (g.T.Store.memory c.wake.new.store)) 4 (object_word c.args.on) c.requires.peopled c.wake.ensures.others c.wake.ensures.rows c.wake.ensures.woken
