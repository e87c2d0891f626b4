use Rattle.std.proofs.Common.{◌≡◌, subst, arith}
use Rattle.kernel_tables.specs.Kernel.{kernel_of}
use Rattle.file_trees.specs.Cuts.{CutsTree}
use Rattle.kernel_machine.proofs.OwnerLaws.{store_is_whole}
use Rattle.file_trees.proofs.Cuts.{cuts_first, cuts_more}
use Rattle.file_trees.proofs.cutting.cut_pages.Goals as goal

pub loop-page-init : goal.loop-page-init
loop-page-init g c =
    record {
      low = omega arith;
      cut = cuts_first (kernel_of (g.T.Store.memory c.args.store.now)) c.args.tree.0.0 c.args.first;
      good = c.requires.good;
      keeps = g.met.T.Store.keeps_same c.args.store.now;
    }

pub cut_page-requires-clause-good : goal.cut_page-requires-clause-good
cut_page-requires-clause-good g c = c.loop-page.invariant.good

pub cut_page-requires-clause-trees : goal.cut_page-requires-clause-trees
cut_page-requires-clause-trees g c = (c.requires.trees.0, c.loop-page.invariant.cut.leaves.trees c.requires.trees.0 c.requires.trees.1)

pub cut_page-requires-clause-space : goal.cut_page-requires-clause-space
cut_page-requires-clause-space g c = (c.loop-page.invariant.cut.leaves.spaces c.args.tree.0.0).0 c.requires.space

pub cut_page-requires-clause-room : goal.cut_page-requires-clause-room
cut_page-requires-clause-room g c =
    c.requires.room (kernel_of (g.T.Store.memory c.loop-page.store)) c.loop-page.page c.loop-page.invariant.cut c.loop-page.invariant.good
    (store_is_whole (g.T.Store.memory c.loop-page.store) c.loop-page.invariant.good (g.met.T.Store.page_length c.loop-page.store))

pub loop-page-preserved : goal.loop-page-preserved
loop-page-preserved g c =
    let low = c.loop-page.invariant.low in
    record {
      low = omega arith;
      cut = cuts_more (kernel_of (g.T.Store.memory c.args.store.now)) (kernel_of (g.T.Store.memory c.loop-page.store)) (kernel_of (g.T.Store.memory c.cut_page.new.store)) c.args.tree.0.0
          c.args.first c.loop-page.page low c.loop-page.invariant.cut c.cut_page.ensures.cut;
      good = c.cut_page.ensures.good;
      keeps = g.met.T.Store.keeps_trans c.args.store.now c.loop-page.store c.cut_page.new.store c.loop-page.invariant.keeps c.cut_page.ensures.keeps;
    }

pub returns-clause-cut : goal.returns-clause-cut
returns-clause-cut g c =
    let past = c.loop-page-test.false in
    let order = c.requires.order in
    let last : c.loop-page.page ≡ c.args.end = omega arith in
    subst (CutsTree (kernel_of (g.T.Store.memory c.args.store.now)) (kernel_of (g.T.Store.memory c.loop-page.store)) c.args.tree.0.0 c.args.first) last c.loop-page.invariant.cut

pub returns-clause-good : goal.returns-clause-good
returns-clause-good g c = c.loop-page.invariant.good

pub returns-clause-keeps : goal.returns-clause-keeps
returns-clause-keeps g c = c.loop-page.invariant.keeps
