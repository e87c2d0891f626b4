use Rattle.std.proofs.Common.{arith}
use Rattle.kernel_tables.specs.Kernel.{kernel_of}
use Rattle.tests_domain.proofs.Ranges.{in_range}
use Rattle.tests_domain.proofs.checked.keys_in_range.Goals as goal

pub returns : goal.returns
returns g c told =
    let nodes = c.node_number-nodes.ensures in
    let ended = c.loop-place-test.false in
    in_range (kernel_of (g.T.Store.memory c.args.store.now)) c.requires.readable c.loop-place.place (omega arith) c.loop-place.invariant
