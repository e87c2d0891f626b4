use Rattle.std.proofs.Common.{◌/◌, sym, arith}
use Rattle.kernel_tables.specs.Kernel.{kernel_of}
use Rattle.kernel_tables.proofs.Sizes.{length-inodes}
use Rattle.kernel_forest.proofs.Rest.{rest-nodes, rest-pages_taken, rest-size}
use Rattle.kernel_machine.proofs.OwnerLaws.{store_is_whole}
use Rattle.file_domain.proofs.First.{is1, owner1, puts_first_by}
use Rattle.file_trees.proofs.Accounting.{nodes_left}
use Rattle.file_domain.proofs.Puts.{page_left}
use Rattle.file_domain.proofs.Seen.{file_row, rooted_row}
use Rattle.file_domain.proofs.writing.put_first.Goals as goal

pub new_space-tree-requires-clause-room : goal.new_space-tree-requires-clause-room
new_space-tree-requires-clause-room g c = let left = nodes_left (kernel_of (g.T.Store.memory c.args.store.now)) c.requires.good in omega arith

pub put_piece-requires-clause-space : goal.put_piece-requires-clause-space
put_piece-requires-clause-space g c =
    is1 (kernel_of (g.T.Store.memory c.args.store.now)) (kernel_of (g.T.Store.memory c.new_space-tree.new.store)) c.args.file c.new_space-tree.result.0.0 c.args.inode c.requires.good c.requires.file
    c.requires.root c.new_space-tree.ensures.added c.new_space-tree.ensures.good

pub put_piece-requires-clause-low : goal.put_piece-requires-clause-low
put_piece-requires-clause-low g c =
    let row = file_row (kernel_of (g.T.Store.memory c.args.store.now)) c.args.file c.args.inode c.requires.good.standing c.requires.number c.requires.file in
    let most = row.length in
    let within = c.requires.within in
    omega arith

pub put_piece-requires-clause-owner : goal.put_piece-requires-clause-owner
put_piece-requires-clause-owner g c =
    let old = kernel_of (g.T.Store.memory c.args.store.now) in
    let mid = kernel_of (g.T.Store.memory c.new_space-tree.new.store) in
    sym (owner1 old mid c.args.file c.new_space-tree.result.0.0 c.args.inode c.requires.good c.requires.file c.requires.root c.new_space-tree.ensures.added c.new_space-tree.ensures.good)

pub put_piece-requires-clause-room : goal.put_piece-requires-clause-room
put_piece-requires-clause-room g c =
    let left = nodes_left (kernel_of (g.T.Store.memory c.args.store.now)) c.requires.good in
    let number = c.new_space-tree.ensures.added.number in
    let nodes = rest-nodes (kernel_of (g.T.Store.memory c.args.store.now)) (kernel_of (g.T.Store.memory c.new_space-tree.new.store)) c.new_space-tree.ensures.added.rest in
    omega arith

pub put_piece-requires-clause-page_room : goal.put_piece-requires-clause-page_room
put_piece-requires-clause-page_room g c shared =
    let within = c.requires.within in
    let some = c.requires.some in
    let less = page_left (kernel_of (g.T.Store.memory c.args.store.now)) c.args.file (c.args.at / 4096) c.args.inode c.requires.good c.requires.file (omega arith) (λ found real own. absurd (real c.requires.root)) in
    let pages = rest-pages_taken (kernel_of (g.T.Store.memory c.args.store.now)) (kernel_of (g.T.Store.memory c.new_space-tree.new.store)) c.new_space-tree.ensures.added.rest in
    let size = rest-size (kernel_of (g.T.Store.memory c.args.store.now)) (kernel_of (g.T.Store.memory c.new_space-tree.new.store)) c.new_space-tree.ensures.added.rest in
    omega arith

pub set_inode-requires-clause-right : goal.set_inode-requires-clause-right
set_inode-requires-clause-right g c =
    rooted_row (kernel_of (g.T.Store.memory c.args.store.now)) c.args.file c.new_space-tree.result.0.0 c.args.inode c.requires.good.standing c.requires.number c.requires.file

pub returns-clause-put : goal.returns-clause-put
returns-clause-put g c =
    puts_first_by (kernel_of (g.T.Store.memory c.args.store.now)) (kernel_of (g.T.Store.memory c.new_space-tree.new.store)) c.args.file c.new_space-tree.result.0.0 c.args.inode c.requires.good c.requires.file
    c.requires.root c.new_space-tree.ensures.added c.new_space-tree.ensures.good (kernel_of (g.T.Store.memory c.put_piece.new.store)) c.args.at c.args.from.now c.requires.number
    (length-inodes (g.T.Store.memory c.args.store.now) c.requires.good.standing.bank.sized) c.requires.some c.requires.inside c.requires.within c.put_piece.ensures.put c.put_piece.ensures.good
    (store_is_whole (g.T.Store.memory c.put_piece.new.store) c.put_piece.ensures.good (g.met.T.Store.page_length c.put_piece.new.store))
    (kernel_of (g.T.Store.memory c.set_inode.new.store)) c.set_inode.ensures.written c.set_inode.ensures.roots c.set_inode.ensures.good

pub returns-clause-keeps : goal.returns-clause-keeps
returns-clause-keeps g c =
    g.met.T.Store.keeps_trans c.args.store.now c.put_piece.new.store c.set_inode.new.store
    (g.met.T.Store.keeps_trans c.args.store.now c.new_space-tree.new.store c.put_piece.new.store c.new_space-tree.ensures.keeps c.put_piece.ensures.keeps) c.set_inode.ensures.keeps
