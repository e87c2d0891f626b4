use Rattle.std.proofs.Common.{refl}
use Rattle.kernel_tables.specs.Kernel.{kernel_of}
use Rattle.unix_model.specs.Tables.{at}
use Rattle.domain.specs.Domains.{domains}
use Rattle.domain.specs.Marks.{parked_on}
use Rattle.invoke.specs.Invokes.{root_in_slot}
use Rattle.invoke.specs.Parking.{object_word}
use Rattle.tests_invoke.proofs.PeopleLaws.{one_marked}
use Rattle.tests_invoke.proofs.people.park_one.Goals as goal

pub returns-clause-peopled : goal.returns-clause-peopled
returns-clause-peopled g c =
    let old = kernel_of (g.T.Store.memory c.args.store.now) in
    let root = root_in_slot old c.args.slot in
    one_marked old (kernel_of (g.T.Store.memory c.park.new.store)) 4 root (parked_on (object_word c.args.on) (at (domains old) root)) c.requires.peopled c.park.ensures.others c.park.ensures.rows c.park.ensures.parked refl refl refl
