use Rattle.std.proofs.Common.{◌≡◌, ◌/◌, Some, sym, subst, ◌∙◌, arith}
use Rattle.kernel_tables.specs.Kernel.{kernel_of}
use Rattle.forest.specs.Calls.{IsOwn}
use Rattle.kernel_forest.specs.Trees.{forest_of}
use Rattle.kernel_machine.proofs.OwnerLaws.{store_is_whole}
use Rattle.file_trees.proofs.Accounting.{nodes_left}
use Rattle.file_domain.proofs.Puts.{page_left, may_write}
use Rattle.file_domain.proofs.Seen.{file_tree, file_root, file_row}
use Rattle.file_domain.proofs.TreeCuts.{clear_changes, clear_nothing}
use Rattle.file_domain.proofs.cutting.clear_rest.Goals as goal

pub clear_piece-requires-clause-good : goal.clear_piece-requires-clause-good
clear_piece-requires-clause-good g c = c.requires.good.standing.bank

pub clear_piece-requires-clause-trees : goal.clear_piece-requires-clause-trees
clear_piece-requires-clause-trees g c = (_, c.requires.good.standing.trees)

pub clear_piece-requires-clause-space : goal.clear_piece-requires-clause-space
clear_piece-requires-clause-space g c = file_tree (kernel_of (g.T.Store.memory c.args.store.now)) c.args.file c.args.inode c.requires.good.standing c.requires.file c.requires.root

pub clear_piece-requires-clause-zero : goal.clear_piece-requires-clause-zero
clear_piece-requires-clause-zero g c = c.requires.good.standing.unused.zero

pub clear_piece-requires-clause-writable : goal.clear_piece-requires-clause-writable
clear_piece-requires-clause-writable g c = may_write (kernel_of (g.T.Store.memory c.args.store.now)) c.args.file c.args.inode c.requires.good c.requires.file c.requires.root

pub clear_piece-requires-clause-low : goal.clear_piece-requires-clause-low
clear_piece-requires-clause-low g c =
    let row = file_row (kernel_of (g.T.Store.memory c.args.store.now)) c.args.file c.args.inode c.requires.good.standing c.requires.number c.requires.file in
    let most = row.length in
    let order = c.requires.order in
    omega arith

pub clear_piece-requires-clause-owner : goal.clear_piece-requires-clause-owner
clear_piece-requires-clause-owner g c =
    let old = kernel_of (g.T.Store.memory c.args.store.now) in
    sym (file_root old c.args.file c.args.inode c.requires.good.standing c.requires.file c.requires.root).1

pub clear_piece-requires-clause-room : goal.clear_piece-requires-clause-room
clear_piece-requires-clause-room g c = let left = nodes_left (kernel_of (g.T.Store.memory c.args.store.now)) c.requires.good in omega arith

pub clear_piece-requires-clause-page_room : goal.clear_piece-requires-clause-page_room
clear_piece-requires-clause-page_room g c found there real shared =
    let old = kernel_of (g.T.Store.memory c.args.store.now) in
    let order = c.requires.order in
    let odd = c.if-used-ne0.true in
    page_left old c.args.file (c.args.length / 4096) c.args.inode c.requires.good c.requires.file (omega arith)
    (λ other some own.
    let both : Some other ≡ Some found = sym own.mapped ∙ there in
    shared (subst (IsOwn (forest_of old) c.args.inode.root (c.args.length / 4096)) (let same : other ≡ found = cc in same) own))

pub returns-then-used-ne0-clause-cleared : goal.returns-then-used-ne0-clause-cleared
returns-then-used-ne0-clause-cleared g c =
    let old = kernel_of (g.T.Store.memory c.args.store.now) in
    let new = kernel_of (g.T.Store.memory c.clear_piece.new.store) in
    clear_changes old new c.args.file c.args.length c.args.inode c.requires.good c.requires.number c.requires.file c.requires.root c.clear_piece.ensures.good
    (store_is_whole (g.T.Store.memory c.clear_piece.new.store) c.clear_piece.ensures.good (g.met.T.Store.page_length c.clear_piece.new.store)) c.requires.order c.if-used-ne0.true c.clear_piece.ensures.cleared

pub returns-else-used-ne0-clause-cleared : goal.returns-else-used-ne0-clause-cleared
returns-else-used-ne0-clause-cleared g c =
    clear_nothing (kernel_of (g.T.Store.memory c.args.store.now)) c.args.file c.args.length c.args.inode c.requires.good c.requires.number c.requires.file c.requires.root c.if-used-ne0.false
