use Rattle.std.proofs.Common.{arith}
use Rattle.kernel_tables.specs.Kernel.{kernel_of}
use Rattle.space_bank.proofs.FullLaws.{no_node-free}
use Rattle.kernel_forest.proofs.NoTree.{takes_row}
use Rattle.domain.proofs.steps.take_row.Goals as goal

pub unreachable-requires : goal.unreachable-requires
unreachable-requires g c =
    let full = no_node-free (kernel_of (g.T.Store.memory c.args.store.now)) c.requires.good c.in-None.ensures.taken.0 in
    let room = c.requires.room in
    omega arith

pub returns-clause-taken : goal.returns-clause-taken
returns-clause-taken g c =
    takes_row (kernel_of (g.T.Store.memory c.args.store.now)) (kernel_of (g.T.Store.memory c.take_node.new.store)) c.in-Some.node.0 c.requires.good c.in-Some.ensures.taken c.in-Some.ensures.shares

pub returns-clause-was_free : goal.returns-clause-was_free
returns-clause-was_free g c = c.in-Some.ensures.taken.was_free
