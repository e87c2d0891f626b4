use Rattle.std.proofs.Common.{◌/◌, arith, sym}
use Rattle.kernel_tables.specs.Kernel.{kernel_of, memory_page}
use Rattle.dir_domain.specs.Rows.{bytes_stored}
use Rattle.dir_domain.proofs.FoundPlaces.{none-named}
use Rattle.dir_domain.proofs.Names.{found-below, found-inode}
use Rattle.dir_domain.proofs.search.find_place.Goals as goal

pub tree_page-page-requires-clause-number : goal.tree_page-page-requires-clause-number
tree_page-page-requires-clause-number g c =
    let below = found-below (kernel_of (g.T.Store.memory c.args.store.now)) c.requires.row.0 c.args.row.now c.requires.standing c.requires.row.1 c.args.name.now c.in-Some.number c.in-Some.ensures in
    omega arith

pub returns-in-Some-clause-inode : goal.returns-in-Some-clause-inode
returns-in-Some-clause-inode g c =
    found-inode (kernel_of (g.T.Store.memory c.args.store.now)) c.requires.row.0 c.args.row.now c.requires.standing c.requires.row.1 c.args.name.now
    (memory_page (kernel_of (g.T.Store.memory c.args.store.now)) c.tree_page-page.result.0) c.place_bytes.result c.in-Some.number c.inode_of_place-inode.result
    c.in-Some.ensures c.tree_page-page.ensures.bytes c.place_bytes.ensures c.inode_of_place-inode.ensures

pub returns-in-None-clause-inode : goal.returns-in-None-clause-inode
returns-in-None-clause-inode g c = sym (none-named (bytes_stored (kernel_of (g.T.Store.memory c.args.store.now)) c.args.row.now) c.args.name.now (c.args.row.now.length / 32) c.in-None.ensures).absent
