use Rattle.kernel_tables.specs.Kernel.{kernel_of}
use Rattle.seg_tree.proofs.PageCopies.{in_use, single_count}
use Rattle.seg_tree.proofs.writing.is_single.Goals as goal

pub page_count-requires-clause-page : goal.page_count-requires-clause-page
page_count-requires-clause-page g c =
    (in_use (kernel_of (g.T.Store.memory c.args.store.now)) c.args.page.0 c.requires.good (c.requires.owned c.if-page-ne0.true)).inside

pub returns-then-page-ne0 : goal.returns-then-page-ne0
returns-then-page-ne0 g c =
    single_count (kernel_of (g.T.Store.memory c.args.store.now)) c.args.page.0 c.requires.good c.if-page-ne0.true (c.requires.owned c.if-page-ne0.true) c.page_count.result c.page_count.ensures
