use Rattle.std.proofs.Common.{◌-◌, arith}
use Rattle.kernel_tables.specs.Kernel.{kernel_of}
use Rattle.kernel_tables.proofs.Sizes.{length-inodes}
use Rattle.file_domain.proofs.LengthRows.{file_promised, row_resizes, shorter_bytes}
use Rattle.file_domain.proofs.Seen.{file_row, grown_row}
use Rattle.file_domain.proofs.cutting.lower_length.Goals as goal

pub pages_past-requires-clause-most : goal.pages_past-requires-clause-most
pages_past-requires-clause-most g c = (file_row (kernel_of (g.T.Store.memory c.args.store.now)) c.args.file c.args.inode c.requires.good.standing c.requires.number c.requires.file).length

pub unpromise-requires-clause-promised : goal.unpromise-requires-clause-promised
unpromise-requires-clause-promised g c =
    let promises = file_promised (kernel_of (g.T.Store.memory c.args.store.now)) c.args.file c.args.inode c.requires.good c.requires.number c.requires.file in
    let past = c.pages_past.ensures in
    omega arith

pub set_inode-requires-clause-right : goal.set_inode-requires-clause-right
set_inode-requires-clause-right g c =
    let row = file_row (kernel_of (g.T.Store.memory c.args.store.now)) c.args.file c.args.inode c.requires.good.standing c.requires.number c.requires.file in
    let most = row.length in
    let order = c.requires.order in
    grown_row (kernel_of (g.T.Store.memory c.args.store.now)) c.args.file c.args.length c.args.inode c.requires.good.standing c.requires.number c.requires.file (omega arith)

pub returns-clause-lowered : goal.returns-clause-lowered
returns-clause-lowered g c =
    let old = kernel_of (g.T.Store.memory c.args.store.now) in
    let promises = file_promised old c.args.file c.args.inode c.requires.good c.requires.number c.requires.file in
    let order = c.requires.order in
    let past = c.pages_past.ensures in
    row_resizes old c.args.file c.args.length (old.machine.promised - c.pages_past.result) c.args.inode c.requires.good c.requires.number c.requires.file
    (length-inodes (g.T.Store.memory c.args.store.now) c.requires.good.standing.bank.sized) c.requires.memory (shorter_bytes old c.args.length c.args.inode c.requires.good c.requires.order) (omega arith)
    (kernel_of (g.T.Store.memory c.unpromise.new.store)) (kernel_of (g.T.Store.memory c.set_inode.new.store)) c.unpromise.ensures.after c.unpromise.ensures.good c.set_inode.ensures.written c.set_inode.ensures.roots
    c.set_inode.ensures.good
