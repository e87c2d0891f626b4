use Rattle.std.proofs.Common.{arith}
use Rattle.kernel_tables.specs.Kernel.{kernel_of}
use Rattle.space_bank.proofs.FullLaws.{no_node-free}
use Rattle.tests_invoke.proofs.people.space_node.Goals as goal

pub unreachable-requires : goal.unreachable-requires
unreachable-requires g c =
    let full = no_node-free (kernel_of (g.T.Store.memory c.args.store.now)) c.requires.good c.in-None.ensures.taken.0 in
    let room = c.requires.room in
    omega arith
