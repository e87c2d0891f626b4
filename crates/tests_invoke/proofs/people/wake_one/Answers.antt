use Rattle.kernel_tables.specs.Kernel.{kernel_of}
use Rattle.unix_model.specs.Tables.{at}
use Rattle.domain.specs.Domains.{roots}
use Rattle.tests_invoke.proofs.PeopleLaws.{slot_marked}
use Rattle.tests_invoke.proofs.people.wake_one.Goals as goal

pub returns-clause-peopled : goal.returns-clause-peopled
returns-clause-peopled g c =
    let old = kernel_of (g.T.Store.memory c.args.store.now) in
    slot_marked old (kernel_of (g.T.Store.memory c.wake_slot.new.store)) 4 (at (roots old) c.args.slot) c.requires.peopled c.wake_slot.ensures.others c.wake_slot.ensures.rows c.wake_slot.ensures.released
