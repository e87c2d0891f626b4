use Rattle.std.proofs.Common.{sym}
use Rattle.kernel_tables.specs.Kernel.{kernel_of}
use Rattle.file_trees.proofs.Pieces.{maps_found, maps_zero}
use Rattle.file_trees.proofs.writing.map_missing.Goals as goal

pub returns-in-Some-clause-mapped : goal.returns-in-Some-clause-mapped
returns-in-Some-clause-mapped g c =
    let found = sym c.in-Some.ensures.found in
    maps_found (kernel_of (g.T.Store.memory c.args.store.now)) c.args.tree.0.0 c.args.page c.requires.good c.requires.space _ found (c.requires.writable c.args.page _ found)

pub returns-in-None-clause-mapped : goal.returns-in-None-clause-mapped
returns-in-None-clause-mapped g c =
    maps_zero (kernel_of (g.T.Store.memory c.args.store.now)) c.args.tree.0.0 c.args.page c.requires.good c.requires.space (kernel_of (g.T.Store.memory c.map_zero.new.store))
    c.requires.trees.0 c.requires.trees.1 c.map_zero.ensures.good c.requires.zero (sym c.in-None.ensures.found) c.map_zero.ensures.mapped
