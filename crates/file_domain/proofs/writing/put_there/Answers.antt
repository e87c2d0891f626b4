use Rattle.std.proofs.Common.{◌/◌, sym, arith}
use Rattle.kernel_tables.specs.Kernel.{kernel_of}
use Rattle.kernel_tables.proofs.Sizes.{length-memory_page}
use Rattle.kernel_machine.proofs.OwnerLaws.{store_is_whole}
use Rattle.file_trees.proofs.Pages.{tree_whole}
use Rattle.file_trees.proofs.Accounting.{nodes_left}
use Rattle.file_domain.proofs.Puts.{page_left, may_write, puts_at}
use Rattle.file_domain.proofs.Seen.{file_tree, file_root, file_row}
use Rattle.file_domain.proofs.writing.put_there.Goals as goal

pub put_piece-requires-clause-good : goal.put_piece-requires-clause-good
put_piece-requires-clause-good g c = c.requires.good.standing.bank

pub put_piece-requires-clause-trees : goal.put_piece-requires-clause-trees
put_piece-requires-clause-trees g c = (_, c.requires.good.standing.trees)

pub put_piece-requires-clause-space : goal.put_piece-requires-clause-space
put_piece-requires-clause-space g c = file_tree (kernel_of (g.T.Store.memory c.args.store.now)) c.args.file c.args.inode c.requires.good.standing c.requires.file c.requires.root

pub put_piece-requires-clause-zero : goal.put_piece-requires-clause-zero
put_piece-requires-clause-zero g c = c.requires.good.standing.unused.zero

pub put_piece-requires-clause-writable : goal.put_piece-requires-clause-writable
put_piece-requires-clause-writable g c = may_write (kernel_of (g.T.Store.memory c.args.store.now)) c.args.file c.args.inode c.requires.good c.requires.file c.requires.root

pub put_piece-requires-clause-low : goal.put_piece-requires-clause-low
put_piece-requires-clause-low g c =
    let row = file_row (kernel_of (g.T.Store.memory c.args.store.now)) c.args.file c.args.inode c.requires.good.standing c.requires.number c.requires.file in
    let most = row.length in
    let within = c.requires.within in
    omega arith

pub put_piece-requires-clause-owner : goal.put_piece-requires-clause-owner
put_piece-requires-clause-owner g c =
    let old = kernel_of (g.T.Store.memory c.args.store.now) in
    sym (file_root old c.args.file c.args.inode c.requires.good.standing c.requires.file c.requires.root).1

pub put_piece-requires-clause-room : goal.put_piece-requires-clause-room
put_piece-requires-clause-room g c = let left = nodes_left (kernel_of (g.T.Store.memory c.args.store.now)) c.requires.good in omega arith

pub put_piece-requires-clause-page_room : goal.put_piece-requires-clause-page_room
put_piece-requires-clause-page_room g c shared =
    let within = c.requires.within in
    let some = c.requires.some in
    page_left (kernel_of (g.T.Store.memory c.args.store.now)) c.args.file (c.args.at / 4096) c.args.inode c.requires.good c.requires.file (omega arith) (λ found real own. shared found own)

pub returns-clause-put : goal.returns-clause-put
returns-clause-put g c =
    let old = kernel_of (g.T.Store.memory c.args.store.now) in
    let standing = c.requires.good.standing in
    let whole = tree_whole old c.args.inode.root standing.bank standing.trees.held.sound (file_tree old c.args.file c.args.inode standing c.requires.file)
    (record { whole = λ page which. length-memory_page (g.T.Store.memory c.args.store.now) page standing.bank.sized which (g.met.T.Store.page_length c.args.store.now) }) in
    puts_at old (kernel_of (g.T.Store.memory c.put_piece.new.store)) c.args.file c.args.at c.args.from.now c.args.inode c.requires.good c.requires.number c.requires.file whole
    c.requires.root c.requires.some c.requires.inside c.requires.within c.put_piece.ensures.put c.put_piece.ensures.good
    (store_is_whole (g.T.Store.memory c.put_piece.new.store) c.put_piece.ensures.good (g.met.T.Store.page_length c.put_piece.new.store))
