use Rattle.kernel_tables.specs.declared.row.Row.TheVariants.{Used}
use Rattle.kernel_tables.specs.Kernel.{kernel_of}
use Rattle.kernel_tables.proofs.Sizes.{length-inodes}
use Rattle.file_tables.proofs.RootLaws.{written_roots}
use Rattle.file_tables.proofs.inodes.set_inode.Goals as goal

pub returns-clause-roots : goal.returns-clause-roots
returns-clause-roots g c =
    let memory = g.T.Store.memory c.args.store.now in
    written_roots (kernel_of memory) _ c.args.number (Used c.args.inode) (length-inodes memory c.requires.sized) c.requires.number c.set_inode_entry.ensures.written
