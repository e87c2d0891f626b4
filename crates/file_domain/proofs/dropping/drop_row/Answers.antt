use Rattle.kernel_tables.specs.Kernel.{kernel_of}
use Rattle.kernel_tables.proofs.Sizes.{length-inodes}
use Rattle.file_domain.proofs.Gone.{drops_inode, few_bytes, once_now, promised_enough, real_page, root_loose}
use Rattle.file_domain.proofs.dropping.drop_row.Goals as goal

pub promised_of-pages-requires : goal.promised_of-pages-requires
promised_of-pages-requires g c = record { few = few_bytes (kernel_of (g.T.Store.memory c.args.store.now)) c.args.number c.args.inode c.requires.good c.requires.number c.requires.unnamed }

pub give_root-requires-clause-loose : goal.give_root-requires-clause-loose
give_root-requires-clause-loose g c =
    root_loose (kernel_of (g.T.Store.memory c.args.store.now)) c.args.number c.args.inode c.requires.good c.requires.number c.requires.unnamed
    (kernel_of (g.T.Store.memory c.free_inode.new.store)) c.free_inode.ensures.written (length-inodes (g.T.Store.memory c.args.store.now) c.requires.good.standing.bank.sized)
    c.free_inode.ensures.roots c.free_inode.ensures.good

pub give_root-requires-clause-real : goal.give_root-requires-clause-real
give_root-requires-clause-real g c = real_page (kernel_of (g.T.Store.memory c.args.store.now)) c.args.number c.args.inode c.requires.good c.requires.number c.requires.unnamed

pub give_root-requires-clause-once : goal.give_root-requires-clause-once
give_root-requires-clause-once g c =
    once_now (kernel_of (g.T.Store.memory c.args.store.now)) c.args.number c.args.inode c.requires.good c.requires.number c.requires.unnamed
    (kernel_of (g.T.Store.memory c.free_inode.new.store)) c.free_inode.ensures.written (length-inodes (g.T.Store.memory c.args.store.now) c.requires.good.standing.bank.sized)
    c.free_inode.ensures.roots c.free_inode.ensures.good c.requires.fixed

pub unpromise-requires-clause-promised : goal.unpromise-requires-clause-promised
unpromise-requires-clause-promised g c =
    promised_enough (kernel_of (g.T.Store.memory c.args.store.now)) c.args.number c.args.inode c.requires.good c.requires.number c.requires.unnamed
    (kernel_of (g.T.Store.memory c.free_inode.new.store)) c.free_inode.ensures.written (length-inodes (g.T.Store.memory c.args.store.now) c.requires.good.standing.bank.sized)
    (kernel_of (g.T.Store.memory c.give_root.new.store)) c.give_root.ensures.released c.promised_of-pages.result c.promised_of-pages.ensures.pages

pub returns-clause-dropped : goal.returns-clause-dropped
returns-clause-dropped g c =
    drops_inode (kernel_of (g.T.Store.memory c.args.store.now)) c.args.number c.args.inode c.requires.good c.requires.number c.requires.unnamed
    (kernel_of (g.T.Store.memory c.free_inode.new.store)) c.free_inode.ensures.written (length-inodes (g.T.Store.memory c.args.store.now) c.requires.good.standing.bank.sized)
    (kernel_of (g.T.Store.memory c.give_root.new.store)) c.give_root.ensures.released c.promised_of-pages.result c.promised_of-pages.ensures.pages
    (kernel_of (g.T.Store.memory c.unpromise.new.store)) c.requires.low c.unpromise.ensures.after c.unpromise.ensures.good
