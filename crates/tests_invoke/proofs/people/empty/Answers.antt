use Rattle.kernel_tables.specs.Kernel.{kernel_of}
use Rattle.tests_invoke.proofs.PeopleLaws.{empty_people}
use Rattle.tests_invoke.proofs.people.empty.Goals as goal

pub returns-clause-peopled : goal.returns-clause-peopled
returns-clause-peopled g c =
    empty_people (kernel_of (g.T.Store.memory c.setup.new.store)) c.setup.ensures.made c.setup.ensures.good c.setup.ensures.nodes c.setup.ensures.shares
