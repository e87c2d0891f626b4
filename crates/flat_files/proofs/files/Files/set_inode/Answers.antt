use Rattle.std.proofs.Common.{arith, ap, Some}
use Rattle.unix_model.proofs.RoomLaws.{inodes_promise, inodes-put}
use Rattle.flat_files.specs.InodeView.{inode_of}
use Rattle.flat_files.specs.InodesView.{inodes_of}
use Rattle.flat_files.proofs.InodeCounts.{inodes-few}
use Rattle.flat_files.proofs.files.Files.set_inode.Goals as goal

pub overflow_add-pages : goal.overflow_add-pages
overflow_add-pages c = omega (arith, c.args.self.now.counted, inodes-few c.args.self.now.inodes, c.pages.ensures.few)

pub invariant_of-self : goal.invariant_of-self
invariant_of-self c =
    omega (arith, c.args.self.now.counted, c.inode_pages.ensures.pages, c.pages.ensures.pages, ap inodes_promise c.put.ensures, inodes-put (inodes_of c.args.self.now.inodes) c.args.number (Some (inode_of c.args.inode)) c.requires)
