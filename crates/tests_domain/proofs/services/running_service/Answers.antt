use Rattle.std.proofs.Common.{inr, arith}
use Rattle.kernel_tables.specs.Kernel.{kernel_of}
use Rattle.domain.proofs.Untaken.{untaken_rows}
use Rattle.tests_domain.proofs.Ready.{empty_taken}
use Rattle.tests_domain.proofs.ServiceLaws.{fresh_service}
use Rattle.tests_domain.proofs.services.running_service.Goals as goal

pub set_state-requires-clause-rows : goal.set_state-requires-clause-rows
set_state-requires-clause-rows g c =
    let kernel = kernel_of (g.T.Store.memory c.setup.new.store) in
    untaken_rows kernel c.setup.ensures.good (empty_taken kernel c.setup.ensures.made)

pub set_state-requires-clause-alive : goal.set_state-requires-clause-alive
set_state-requires-clause-alive g c =
    inr (fresh_service (kernel_of (g.T.Store.memory c.setup.new.store)) 3 c.setup.ensures.good c.setup.ensures.nodes (omega arith) (omega arith))

pub returns-clause-pipes : goal.returns-clause-pipes
returns-clause-pipes g c =
    inr (c.set_state.ensures.others.services_now 4 (fresh_service (kernel_of (g.T.Store.memory c.setup.new.store)) 4 c.setup.ensures.good c.setup.ensures.nodes (omega arith) (omega arith)))
