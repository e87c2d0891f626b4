use Rattle.kernel_tables.proofs.Sizes.{length-inodes}
use Rattle.kernel_tables.proofs.files.inode_entry.Goals as goal

pub returns-clause-rows : goal.returns-clause-rows
returns-clause-rows g c = length-inodes (g.T.Store.memory c.args.store.now) c.requires.sized
