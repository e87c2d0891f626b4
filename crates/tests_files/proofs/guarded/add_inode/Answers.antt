use Rattle.kernel_tables.specs.Kernel.{kernel_of}
use Rattle.kernel_tables.proofs.Sizes.{length-inodes}
use Rattle.tests_files.proofs.Made.{made_good}
use Rattle.tests_files.proofs.guarded.add_inode.Goals as goal

pub returns-in-Ok : goal.returns-in-Ok
returns-in-Ok g c =
    let old = kernel_of (g.T.Store.memory c.args.store.now) in
    record {
      good = made_good old (kernel_of (g.T.Store.memory c.new_inode.new.store)) c.args.kind c.in-Ok.number c.requires.good c.in-Ok.ensures.taken c.requires.no_pipe
          (length-inodes (g.T.Store.memory c.args.store.now) c.requires.good.standing.bank.sized) c.in-Ok.ensures.roots c.in-Ok.ensures.good;
    }
