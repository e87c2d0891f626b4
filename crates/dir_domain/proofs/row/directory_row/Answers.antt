use Rattle.dir_domain.proofs.Seen.{directory-below, directory-row, no-directory}
use Rattle.kernel_tables.specs.Kernel.{kernel_of}
use Rattle.dir_domain.proofs.row.directory_row.Goals as goal

pub inode_of-requires-clause-number : goal.inode_of-requires-clause-number
inode_of-requires-clause-number g c = directory-below (g.T.Store.memory c.args.store.now) c.args.dir c.requires.standing c.requires.directory

pub returns-in-Some : goal.returns-in-Some
returns-in-Some g c = directory-row (g.T.Store.memory c.args.store.now) c.args.dir c.in-Some.row c.requires.standing c.requires.directory c.in-Some.ensures

pub returns-in-None : goal.returns-in-None
returns-in-None g c = absurd (no-directory (kernel_of (g.T.Store.memory c.args.store.now)) c.args.dir c.requires.directory c.in-None.ensures)
