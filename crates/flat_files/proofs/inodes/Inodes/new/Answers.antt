use Rattle.flat_files.specs.InodeView.{inode_of}
use Rattle.flat_files.specs.InodesView.{inodes_of}
use Rattle.flat_files.proofs.SlotLaws.{table-none}
use Rattle.flat_files.proofs.inodes.Inodes.new.Goals as goal

pub returns : goal.returns
unfolding inodes_of
returns c = table-none inode_of _ c.in_ok-free_places.ensures.free
