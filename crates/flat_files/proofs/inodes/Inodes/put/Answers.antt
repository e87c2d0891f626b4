use Rattle.std.proofs.Common.{arith, Some}
use Rattle.flat_files.specs.InodeView.{inode_of}
use Rattle.flat_files.specs.InodesView.{inodes_of}
use Rattle.flat_files.proofs.SlotLaws.{table-set}
use Rattle.flat_files.proofs.inodes.Inodes.put.Goals as goal

pub returns : goal.returns
unfolding inodes_of
returns c = table-set inode_of c.args.self.now.items.items c.args.number (Some c.args.inode) (omega (arith, c.args.self.now.full))
