use Rattle.std.proofs.Common.{arith}
use Rattle.kn_base.specs.Rows.{overwritten}
use Rattle.kernel_tables.specs.Kernel.{kernel_of, bank_page}
use Rattle.pipe_domain.specs.Rings.{ring_written}
use Rattle.pipe_domain.proofs.RingLaws.{written-one, written-two}
use Rattle.pipe_domain.proofs.PageWrites.{in-pieces, page-once, page-twice}
use Rattle.pipe_domain.proofs.rings.write_ring.Goals as goal

pub returns-then-from-before-clause-written : goal.returns-then-from-before-clause-written
returns-then-from-before-clause-written g c =
    let old = kernel_of (g.T.Store.memory c.args.store.now) in
    let page = bank_page old c.args.page.0 in
    page-once old (kernel_of (g.T.Store.memory c.write_page.new.store)) c.args.page.0 (overwritten page c.args.place c.args.from.now) (ring_written page c.args.place c.args.from.now)
    (written-one page c.args.place c.args.from.now (omega (arith, c.if-from-before.true, c.requires.place))) c.write_page.ensures.written

pub returns-else-from-before-clause-written : goal.returns-else-from-before-clause-written
returns-else-from-before-clause-written g c =
    let old = kernel_of (g.T.Store.memory c.args.store.now) in
    let mid = kernel_of (g.T.Store.memory c.write_page-else-from-before.new.store) in
    let new = kernel_of (g.T.Store.memory c.write_page-else-from-before-2.new.store) in
    let page = bank_page old c.args.page.0 in
    let front = c.split_at.result.0.now in
    let back = c.split_at.result.1.now in
    let ring = ring_written page c.args.place c.args.from.now in
    page-once old new c.args.page.0 (overwritten (overwritten page c.args.place front) 0 back) ring
    (in-pieces page c.args.place front back ring c.split_at.ensures.front c.split_at.ensures.back (written-two page c.args.place c.args.from.now (omega (arith, c.if-from-before.false, c.requires.place))))
    (page-twice old mid new c.args.page.0 (overwritten page c.args.place front) back
    (omega (arith, c.requires.good.pages.pages, c.requires.page.low, c.requires.page.high)) c.write_page-else-from-before.ensures.written c.write_page-else-from-before-2.ensures.written)
