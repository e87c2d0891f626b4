use Rattle.kernel_tables.specs.Kernel.{kernel_of}
use Rattle.tests_pipes.proofs.Opened.{has-opened, opened-good, opened-right}
use Rattle.tests_pipes.proofs.piping.open_both.Goals as goal

pub set_inode-requires-clause-right : goal.set_inode-requires-clause-right
set_inode-requires-clause-right g c =
    let old = kernel_of (g.T.Store.memory c.args.store.now) in
    let mid = kernel_of (g.T.Store.memory c.new_description.new.store) in
    opened-right old mid c.args.pipe c.count_opens-opens.result c.in-Some.inode mid.descriptions c.requires
    (has-opened old mid c.in-Ok.ensures.taken) c.in-Some.ensures

pub returns : goal.returns
returns g c =
    let old = kernel_of (g.T.Store.memory c.args.store.now) in
    let mid = kernel_of (g.T.Store.memory c.new_description.new.store) in
    opened-good old mid c.args.pipe c.count_opens-opens.result c.in-Some.inode mid.descriptions c.requires
    (has-opened old mid c.in-Ok.ensures.taken) c.in-Some.ensures
    (kernel_of (g.T.Store.memory c.set_inode.new.store)) c.count_opens-opens.ensures c.in-Ok.ensures.good c.set_inode.ensures.written c.set_inode.ensures.good
