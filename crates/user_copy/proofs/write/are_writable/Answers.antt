use Rattle.std.proofs.Common.{sym, ◌∙◌, arith}
use Rattle.kernel_tables.specs.Kernel.{kernel_of}
use Rattle.user_copy.specs.SpaceMemory.{space_memory}
use Rattle.user_copy.proofs.Tests.{each_writable, one_page_more, one_page_refused}
use Rattle.user_copy.proofs.write.are_writable.Goals as goal

pub loop-page-init : goal.loop-page-init
loop-page-init g c i below within = absurd (omega arith)

pub loop-page-preserved : goal.loop-page-preserved
loop-page-preserved g c =
    one_page_more (space_memory (kernel_of (g.T.Store.memory c.args.store.now)) c.args.space.0.0) c.args.at c.args.count c.loop-page.page c.loop-page.invariant
    (λ address is. sym c.if-not-is_writable.false ∙ c.is_writable.ensures address is)

pub returns-then-not-is_writable : goal.returns-then-not-is_writable
returns-then-not-is_writable g c =
    one_page_refused (space_memory (kernel_of (g.T.Store.memory c.args.store.now)) c.args.space.0.0) c.args.at c.args.count c.loop-page.page c.requires.some (omega arith) c.loop-page-test.true
    (λ address is. sym c.if-not-is_writable.true ∙ c.is_writable.ensures address is)

pub returns : goal.returns
returns g c =
    let past = c.loop-page-test.false in
    each_writable (space_memory (kernel_of (g.T.Store.memory c.args.store.now)) c.args.space.0.0) c.args.at c.args.count (λ i below. c.loop-page.invariant i below (omega arith))
