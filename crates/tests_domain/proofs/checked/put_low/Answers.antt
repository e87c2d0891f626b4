use Rattle.std.proofs.Common.{◌+◌, ◌*◌, arith}
use Rattle.kernel_tables.specs.Kernel.{kernel_of}
use Rattle.tests_domain.proofs.Ranges.{put_in_range, put_readable}
use Rattle.tests_domain.proofs.checked.put_low.Goals as goal

pub returns-clause-readable : goal.returns-clause-readable
returns-clause-readable g c =
    put_readable (kernel_of (g.T.Store.memory c.args.store.now)) (kernel_of (g.T.Store.memory c.set_key_at.new.store)) (16 * c.args.node.0 + c.args.place) c.args.key c.requires.readable c.set_key_at.ensures.written

pub returns-clause-in_range : goal.returns-clause-in_range
returns-clause-in_range g c =
    let all = c.requires.readable.all_keys in
    let node = c.requires.node in
    let place = c.requires.place in
    put_in_range (kernel_of (g.T.Store.memory c.args.store.now)) (kernel_of (g.T.Store.memory c.set_key_at.new.store)) (16 * c.args.node.0 + c.args.place) c.args.key c.requires.in_range (omega arith) c.requires.low c.set_key_at.ensures.written
