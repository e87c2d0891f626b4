use Rattle.std.proofs.Common.{◌∙◌, length, arith}
use Rattle.kernel_tables.specs.Kernel.{kernel_of, bank_page}
use Rattle.pipe_domain.proofs.RingLaws.{ring-one, ring-two}
use Rattle.pipe_domain.proofs.rings.read_ring.Goals as goal

pub returns-then-into-before : goal.returns-then-into-before
returns-then-into-before g c =
    c.read_bank_page.ensures.read
    ∙ ring-one (bank_page (kernel_of (g.T.Store.memory c.args.store.now)) c.args.page.0) c.args.start (length c.args.into.now) c.read_bank_page.ensures.whole (omega (arith, c.if-into-before.true, c.requires.start))

pub returns-else-into-before : goal.returns-else-into-before
returns-else-into-before g c =
    ring-two (bank_page (kernel_of (g.T.Store.memory c.args.store.now)) c.args.page.0) c.args.start (length c.args.into.now) (length c.split_at_mut-first.result.0.now) (length c.split_at_mut-first.result.1.now)
    c.read_bank_page-else-into-before.new.into c.read_bank_page-else-into-before-2.new.into c.read_bank_page-else-into-before.ensures.whole c.requires.start c.requires.few (omega (arith, c.if-into-before.false))
    (omega (arith, c.split_at_mut-first.ensures.front_len)) (omega (arith, c.split_at_mut-first.ensures.back_len)) c.read_bank_page-else-into-before.ensures.read c.read_bank_page-else-into-before-2.ensures.read
