use Rattle.std.proofs.Common.{sym, ◌∙◌}
use Rattle.kernel_tables.specs.Kernel.{kernel_of}
use Rattle.kernel_tables.proofs.Sizes.{length-memory_page}
use Rattle.file_trees.proofs.Pages.{tree_whole}
use Rattle.file_trees.proofs.Pieces.{may_put, room_put, puts_in_tree}
use Rattle.file_trees.proofs.writing.put_piece.Goals as goal

pub put_in_page-requires-clause-can_write : goal.put_in_page-requires-clause-can_write
put_in_page-requires-clause-can_write g c =
    let old = kernel_of (g.T.Store.memory c.args.store.now) in
    let mid = kernel_of (g.T.Store.memory c.map_missing.new.store) in
    may_put old mid mid c.args.tree.0.0 c.args.at c.args.from.now c.requires.good c.map_missing.ensures.good c.map_missing.ensures.good c.requires.space
    (tree_whole old c.args.tree.0.0 c.requires.good c.requires.trees.1.held.sound (λ some. c.requires.space)
    (record { whole = λ page which. length-memory_page (g.T.Store.memory c.args.store.now) page c.requires.good.sized which (g.met.T.Store.page_length c.args.store.now) }))
    c.requires.within c.map_missing.ensures.mapped

pub put_in_page-requires-clause-page_room : goal.put_in_page-requires-clause-page_room
put_in_page-requires-clause-page_room g c =
    let old = kernel_of (g.T.Store.memory c.args.store.now) in
    let mid = kernel_of (g.T.Store.memory c.map_missing.new.store) in
    room_put old mid mid c.args.tree.0.0 c.args.at c.args.from.now c.requires.good c.map_missing.ensures.good c.map_missing.ensures.good c.requires.space
    (tree_whole old c.args.tree.0.0 c.requires.good c.requires.trees.1.held.sound (λ some. c.requires.space)
    (record { whole = λ page which. length-memory_page (g.T.Store.memory c.args.store.now) page c.requires.good.sized which (g.met.T.Store.page_length c.args.store.now) }))
    c.requires.within c.map_missing.ensures.mapped c.requires.page_room

pub put_in_page-requires-clause-owner : goal.put_in_page-requires-clause-owner
put_in_page-requires-clause-owner g c =
    let leaves = c.map_missing.ensures.mapped.leaves in
    c.requires.owner ∙ sym (leaves.roots c.args.tree.0.0 ((leaves.spaces c.args.tree.0.0).0 c.requires.space)).owner

pub returns-clause-put : goal.returns-clause-put
returns-clause-put g c =
    let old = kernel_of (g.T.Store.memory c.args.store.now) in
    let mid = kernel_of (g.T.Store.memory c.map_missing.new.store) in
    let new = kernel_of (g.T.Store.memory c.put_in_page.new.store) in
    puts_in_tree old mid new c.args.tree.0.0 c.args.at c.args.from.now
    c.requires.good c.map_missing.ensures.good c.put_in_page.ensures.good c.requires.space
    (tree_whole old c.args.tree.0.0 c.requires.good c.requires.trees.1.held.sound (λ some. c.requires.space)
    (record { whole = λ page which. length-memory_page (g.T.Store.memory c.args.store.now) page c.requires.good.sized which (g.met.T.Store.page_length c.args.store.now) }))
    c.requires.within c.map_missing.ensures.mapped c.args.owner c.put_in_page.ensures.put
