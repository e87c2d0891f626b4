use Rattle.std.proofs.Common.{sym}
use Rattle.kernel_tables.specs.Kernel.{kernel_of}
use Rattle.file_trees.proofs.Cuts.{cuts_nothing, cuts_one}
use Rattle.file_trees.proofs.cutting.cut_page.Goals as goal

pub returns-in-Some-clause-cut : goal.returns-in-Some-clause-cut
returns-in-Some-clause-cut g c =
    cuts_one (kernel_of (g.T.Store.memory c.args.store.now)) c.args.tree.0.0 c.args.page c.requires.good c.requires.space (kernel_of (g.T.Store.memory c.unmap.new.store))
    c.requires.trees.0 c.requires.trees.1 c.unmap.ensures.good c.unmap.ensures.unmapped.replaces

pub returns-in-None-clause-cut : goal.returns-in-None-clause-cut
returns-in-None-clause-cut g c =
    cuts_nothing (kernel_of (g.T.Store.memory c.args.store.now)) c.args.tree.0.0 c.args.page c.requires.good c.requires.space (sym c.in-None.ensures.found)
