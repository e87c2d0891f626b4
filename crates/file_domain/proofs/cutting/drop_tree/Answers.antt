use Rattle.std.proofs.Common.{◌-◌, arith}
use Rattle.kernel_tables.specs.Kernel.{kernel_of}
use Rattle.kernel_tables.proofs.Sizes.{length-inodes}
use Rattle.file_tables.specs.Roots.{named_by}
use Rattle.kernel_machine.proofs.OwnerLaws.{store_is_whole}
use Rattle.file_domain.proofs.LengthRows.{file_promised}
use Rattle.file_domain.proofs.Rootless.{drops_to, gives_up, rootless_row}
use Rattle.file_domain.proofs.Seen.{file_row}
use Rattle.file_domain.proofs.cutting.drop_tree.Goals as goal

pub pages_past-requires-clause-most : goal.pages_past-requires-clause-most
pages_past-requires-clause-most g c = (file_row (kernel_of (g.T.Store.memory c.args.store.now)) c.args.file c.args.inode c.requires.good.standing c.requires.number c.requires.file).length

pub unpromise-requires-clause-promised : goal.unpromise-requires-clause-promised
unpromise-requires-clause-promised g c =
    let promises = file_promised (kernel_of (g.T.Store.memory c.args.store.now)) c.args.file c.args.inode c.requires.good c.requires.number c.requires.file in
    let past = c.pages_past.ensures in
    omega arith

pub set_inode-requires-clause-right : goal.set_inode-requires-clause-right
set_inode-requires-clause-right g c =
    let row = file_row (kernel_of (g.T.Store.memory c.args.store.now)) c.args.file c.args.inode c.requires.good.standing c.requires.number c.requires.file in
    let most = row.length in
    let order = c.requires.order in
    rootless_row (kernel_of (g.T.Store.memory c.args.store.now)) c.args.file c.args.length c.args.inode c.requires.good.standing c.requires.number c.requires.file (omega arith)

pub drop_space-requires : goal.drop_space-requires
drop_space-requires g c =
    let old = kernel_of (g.T.Store.memory c.args.store.now) in
    let new = kernel_of (g.T.Store.memory c.set_inode.new.store) in
    let promises = file_promised old c.args.file c.args.inode c.requires.good c.requires.number c.requires.file in
    let order = c.requires.order in
    let past = c.pages_past.ensures in
    let loose = gives_up old c.args.file c.args.length (old.machine.promised - c.pages_past.result) c.args.inode c.requires.good c.requires.number c.requires.file
    (length-inodes (g.T.Store.memory c.args.store.now) c.requires.good.standing.bank.sized) c.requires.root order c.requires.none (omega arith)
    (kernel_of (g.T.Store.memory c.unpromise.new.store)) new c.unpromise.ensures.after c.unpromise.ensures.good c.set_inode.ensures.written c.set_inode.ensures.roots c.set_inode.ensures.good in
    record { good = loose.bank; trees = (named_by new.inodes, loose.trees); space = loose.is_loose.taken.0 }

pub returns-clause-dropped : goal.returns-clause-dropped
returns-clause-dropped g c =
    let old = kernel_of (g.T.Store.memory c.args.store.now) in
    let mid = kernel_of (g.T.Store.memory c.unpromise.new.store) in
    let new = kernel_of (g.T.Store.memory c.set_inode.new.store) in
    let promises = file_promised old c.args.file c.args.inode c.requires.good c.requires.number c.requires.file in
    let order = c.requires.order in
    let past = c.pages_past.ensures in
    let all = length-inodes (g.T.Store.memory c.args.store.now) c.requires.good.standing.bank.sized in
    let loose = gives_up old c.args.file c.args.length (old.machine.promised - c.pages_past.result) c.args.inode c.requires.good c.requires.number c.requires.file all c.requires.root order c.requires.none (omega arith)
    mid new c.unpromise.ensures.after c.unpromise.ensures.good c.set_inode.ensures.written c.set_inode.ensures.roots c.set_inode.ensures.good in
    drops_to old c.args.file c.args.length (old.machine.promised - c.pages_past.result) c.args.inode c.requires.good c.requires.number c.requires.file all c.requires.root order c.requires.none (omega arith)
    mid new (kernel_of (g.T.Store.memory c.drop_space.new.store)) c.unpromise.ensures.after c.set_inode.ensures.written loose c.drop_space.ensures.dropped c.drop_space.ensures.good
    (store_is_whole (g.T.Store.memory c.drop_space.new.store) c.drop_space.ensures.good (g.met.T.Store.page_length c.drop_space.new.store))
