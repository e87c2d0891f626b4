use Rattle.std.proofs.Common.{arith}
use Rattle.kernel_tables.specs.Kernel.{kernel_of}
use Rattle.space_bank.proofs.FullLaws.{no_node-free}
use Rattle.tests_domain.proofs.Ready.{empty_nodes, empty_taken}
use Rattle.tests_invoke.proofs.CallerLaws.{is_fresh}
use Rattle.tests_invoke.proofs.caller.fresh_space.Goals as goal

pub unreachable-requires : goal.unreachable-requires
unreachable-requires g c =
    let kernel = kernel_of (g.T.Store.memory c.setup.new.store) in
    let full = no_node-free kernel c.setup.ensures.good c.in-None.ensures.taken.0 in
    let a = empty_nodes kernel c.setup.ensures.made in
    let b = empty_taken kernel c.setup.ensures.made in
    omega arith

pub returns-clause-fresh : goal.returns-clause-fresh
returns-clause-fresh g c =
    is_fresh (kernel_of (g.T.Store.memory c.setup.new.store)) (kernel_of (g.T.Store.memory c.take_node.new.store)) c.in-Some.node
    c.setup.ensures.made c.setup.ensures.good c.setup.ensures.nodes c.setup.ensures.shares c.in-Some.ensures.taken c.in-Some.ensures.shares
