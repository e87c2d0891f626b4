use Rattle.std.proofs.Common.{arith, ap, None}
use Rattle.unix_model.proofs.RoomLaws.{inodes_promise, inodes-put}
use Rattle.flat_files.specs.InodesView.{inodes_of}
use Rattle.flat_files.proofs.files.Files.take_inode.Goals as goal

pub invariant_of-self : goal.invariant_of-self
invariant_of-self c =
    omega (arith, c.args.self.now.counted, c.inode_pages.ensures.pages, ap inodes_promise c.take-inode.ensures.free, inodes-put (inodes_of c.args.self.now.inodes) c.args.number None c.requires)
