use Rattle.std.proofs.Common.{arith}
use Rattle.kernel_tables.specs.Kernel.{kernel_of}
use Rattle.kernel_forest.proofs.TakingPages.{takes_page}
use Rattle.space_bank.proofs.FullLaws.{no_page-free}
use Rattle.seg_tree.proofs.BlockCounts.{at_most}
use Rattle.seg_tree.proofs.writing.take_tree_page.Goals as goal

pub returns-in-Some-clause-taken : goal.returns-in-Some-clause-taken
returns-in-Some-clause-taken g c to tree =
    takes_page (kernel_of (g.T.Store.memory c.args.store.now)) (kernel_of (g.T.Store.memory c.take_page.new.store)) c.in-Some.page.0 c.args.owner to
    c.requires.good tree c.in-Some.ensures.taken c.in-Some.ensures.shares

pub returns-in-None-clause-taken : goal.returns-in-None-clause-taken
returns-in-None-clause-taken g c to tree =
    let full = no_page-free (kernel_of (g.T.Store.memory c.args.store.now)) c.requires.good c.in-None.ensures.taken.0 in
    let room = c.requires.room in
    absurd (omega arith)

pub returns-in-Some-clause-blocks : goal.returns-in-Some-clause-blocks
returns-in-Some-clause-blocks g c = at_most 2 (omega arith) c.in-Some.ensures.blocks

pub returns-in-None-clause-blocks : goal.returns-in-None-clause-blocks
returns-in-None-clause-blocks g c =
    let full = no_page-free (kernel_of (g.T.Store.memory c.args.store.now)) c.requires.good c.in-None.ensures.taken.0 in
    let room = c.requires.room in
    absurd (omega arith)
