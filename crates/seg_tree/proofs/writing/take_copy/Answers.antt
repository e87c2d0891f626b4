use Rattle.std.proofs.Common.{arith}
use Rattle.kernel_tables.specs.Kernel.{kernel_of}
use Rattle.kernel_forest.specs.Trees.{page_tree}
use Rattle.seg_tree.proofs.Levels.{some_owner}
use Rattle.seg_tree.proofs.PageCopies.{copy_from, copy_to, copy_used, copy_apart, copies_page, copies_zero}
use Rattle.seg_tree.proofs.BlockCounts.{at_most, more_at_most, widen_most}
use Rattle.seg_tree.proofs.writing.take_copy.Goals as goal

pub copy_page-requires-clause-from : goal.copy_page-requires-clause-from
copy_page-requires-clause-from g c =
    let to = some_owner (page_tree c.args.owner) c.requires.tree in
    copy_from (kernel_of (g.T.Store.memory c.args.store.now)) (kernel_of (g.T.Store.memory c.take_tree_page-fresh.new.store)) c.args.found.0 c.take_tree_page-fresh.result.0 c.args.owner to.0
    c.requires.good c.if-found-ne0.true (c.requires.owned c.if-found-ne0.true) (c.take_tree_page-fresh.ensures.taken to.0 to.1)

pub copy_page-requires-clause-to : goal.copy_page-requires-clause-to
copy_page-requires-clause-to g c =
    let to = some_owner (page_tree c.args.owner) c.requires.tree in
    copy_to (kernel_of (g.T.Store.memory c.args.store.now)) (kernel_of (g.T.Store.memory c.take_tree_page-fresh.new.store)) c.args.found.0 c.take_tree_page-fresh.result.0 c.args.owner to.0
    c.requires.good c.if-found-ne0.true (c.requires.owned c.if-found-ne0.true) (c.take_tree_page-fresh.ensures.taken to.0 to.1)

pub copy_page-requires-clause-used : goal.copy_page-requires-clause-used
copy_page-requires-clause-used g c =
    let to = some_owner (page_tree c.args.owner) c.requires.tree in
    copy_used (kernel_of (g.T.Store.memory c.args.store.now)) (kernel_of (g.T.Store.memory c.take_tree_page-fresh.new.store)) c.args.found.0 c.take_tree_page-fresh.result.0 c.args.owner to.0
    c.requires.good c.if-found-ne0.true (c.requires.owned c.if-found-ne0.true) (c.take_tree_page-fresh.ensures.taken to.0 to.1) c.take_tree_page-fresh.ensures.good

pub copy_page-requires-clause-two_pages : goal.copy_page-requires-clause-two_pages
copy_page-requires-clause-two_pages g c =
    let to = some_owner (page_tree c.args.owner) c.requires.tree in
    copy_apart (kernel_of (g.T.Store.memory c.args.store.now)) (kernel_of (g.T.Store.memory c.take_tree_page-fresh.new.store)) c.args.found.0 c.take_tree_page-fresh.result.0 c.args.owner to.0
    c.requires.good c.if-found-ne0.true (c.requires.owned c.if-found-ne0.true) (c.take_tree_page-fresh.ensures.taken to.0 to.1)

pub returns-then-found-ne0-clause-copied : goal.returns-then-found-ne0-clause-copied
returns-then-found-ne0-clause-copied g c to tree =
    copies_page (kernel_of (g.T.Store.memory c.args.store.now)) (kernel_of (g.T.Store.memory c.take_tree_page-fresh.new.store)) c.args.found.0 c.take_tree_page-fresh.result.0 c.args.owner to
    c.requires.good c.if-found-ne0.true (c.requires.owned c.if-found-ne0.true) (c.take_tree_page-fresh.ensures.taken to tree)
    (kernel_of (g.T.Store.memory c.copy_page.new.store)) c.take_tree_page-fresh.ensures.good c.copy_page.ensures.written

pub returns-else-found-ne0-clause-copied : goal.returns-else-found-ne0-clause-copied
returns-else-found-ne0-clause-copied g c to tree =
    copies_zero (kernel_of (g.T.Store.memory c.args.store.now)) (kernel_of (g.T.Store.memory c.take_tree_page-fresh.new.store)) c.args.found.0 c.take_tree_page-fresh.result.0 c.args.owner to
    c.if-found-ne0.false c.requires.zero (c.take_tree_page-fresh.ensures.taken to tree)

pub returns-then-found-ne0-clause-blocks : goal.returns-then-found-ne0-clause-blocks
returns-then-found-ne0-clause-blocks g c =
    more_at_most 3 (omega arith) c.take_tree_page-fresh.ensures.blocks (at_most 1 (omega arith) c.copy_page.ensures.blocks)

pub returns-else-found-ne0-clause-blocks : goal.returns-else-found-ne0-clause-blocks
returns-else-found-ne0-clause-blocks g c = widen_most 3 (omega arith) c.take_tree_page-fresh.ensures.blocks
