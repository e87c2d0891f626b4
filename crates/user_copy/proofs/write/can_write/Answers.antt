use Rattle.std.proofs.Common.{◌/◌, refl, arith}
use Rattle.kernel_tables.specs.Kernel.{kernel_of}
use Rattle.user_copy.specs.SpaceMemory.{space_memory}
use Rattle.user_copy.proofs.Tests.{writable_far, writable_nothing, in_one_page}
use Rattle.user_copy.proofs.write.can_write.Goals as goal

pub returns-then-count-eq0 : goal.returns-then-count-eq0
returns-then-count-eq0 g c = writable_nothing (space_memory (kernel_of (g.T.Store.memory c.args.store.now)) c.args.space.0.0) c.args.at c.args.count c.if-count-eq0.true

pub returns-then-count-at : goal.returns-then-count-at
returns-then-count-at g c =
    let some = c.if-count-eq0.false in
    in_one_page (space_memory (kernel_of (g.T.Store.memory c.args.store.now)) c.args.space.0.0) c.args.at c.args.count (c.args.at / 4096) c.is_writable.result
    (omega arith) (omega arith) refl c.is_writable.ensures

pub returns-then-at-count-gt2147483648 : goal.returns-then-at-count-gt2147483648
returns-then-at-count-gt2147483648 g c =
    let some = c.if-count-eq0.false in
    writable_far (kernel_of (g.T.Store.memory c.args.store.now)) c.args.space.0.0 c.args.at c.args.count c.if-at-count-gt2147483648.true (omega arith)
