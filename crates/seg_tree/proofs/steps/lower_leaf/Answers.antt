use Rattle.std.proofs.Common.{arith, ◌≤◌, ℕ, subst}
use Rattle.kernel_tables.specs.Kernel.{kernel_of}
use Rattle.kernel_forest.proofs.Bridge.{page_inside}
use Rattle.kernel_forest.proofs.Moves.{page_shares, lowers_page_key}
use Rattle.seg_tree.proofs.PageCopies.{in_use, lowers_zero}
use Rattle.seg_tree.proofs.BlockCounts.{at_most, none_at_most}
use Rattle.seg_tree.proofs.steps.lower_leaf.Goals as goal

pub lower_page-requires-clause-page : goal.lower_page-requires-clause-page
lower_page-requires-clause-page g c =
    (in_use (kernel_of (g.T.Store.memory c.args.store.now)) c.args.page.0 c.requires.good (c.requires.owned c.if-page-ne0.true)).inside

pub lower_page-requires-clause-shared : goal.lower_page-requires-clause-shared
lower_page-requires-clause-shared g c =
    let k = kernel_of (g.T.Store.memory c.args.store.now) in
    subst (λ (n : ℕ). 2 ≤ n) (page_shares k c.args.page.0 (page_inside k c.args.page.0 c.requires.good (c.requires.owned c.if-page-ne0.true))) (c.requires.shared c.if-page-ne0.true)

pub returns-then-page-ne0-clause-lowered : goal.returns-then-page-ne0-clause-lowered
returns-then-page-ne0-clause-lowered g c writable =
    lowers_page_key (kernel_of (g.T.Store.memory c.args.store.now)) (kernel_of (g.T.Store.memory c.lower_page.new.store)) c.args.page writable
    c.requires.good c.if-page-ne0.true (c.requires.owned c.if-page-ne0.true) c.lower_page.ensures.lowered c.lower_page.ensures.shares

pub returns-else-page-ne0-clause-lowered : goal.returns-else-page-ne0-clause-lowered
returns-else-page-ne0-clause-lowered g c writable = lowers_zero (kernel_of (g.T.Store.memory c.args.store.now)) c.args.page writable c.if-page-ne0.false

pub returns-then-page-ne0-clause-blocks : goal.returns-then-page-ne0-clause-blocks
returns-then-page-ne0-clause-blocks g c = at_most 1 (omega arith) c.lower_page.ensures.blocks

pub returns-else-page-ne0-clause-blocks : goal.returns-else-page-ne0-clause-blocks
returns-else-page-ne0-clause-blocks g c = none_at_most 1
