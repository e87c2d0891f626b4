use Rattle.std.proofs.Common.{true, arith}
use Rattle.kernel_tables.specs.Kernel.{kernel_of}
use Rattle.forest.specs.Walks.{place_of}
use Rattle.kernel_forest.specs.Trees.{page_tree}
use Rattle.seg_tree.proofs.Levels.{some_owner}
use Rattle.seg_tree.proofs.PageCopies.{copy_owned, copy_tree, found_put, many_put, copies_leaf}
use Rattle.seg_tree.proofs.BlockCounts.{at_most, more_at_most}
use Rattle.seg_tree.proofs.writing.copy_leaf.Goals as goal

pub put_key-requires-clause-owned : goal.put_key-requires-clause-owned
put_key-requires-clause-owned g c =
    let to = some_owner (page_tree c.args.owner) c.requires.tree in
    copy_owned (kernel_of (g.T.Store.memory c.args.store.now)) (kernel_of (g.T.Store.memory c.take_copy-fresh.new.store)) (place_of c.args.node.0 c.args.digit) c.args.found.0 c.take_copy-fresh.result.0 c.args.owner to.0
    c.requires.stands (c.take_copy-fresh.ensures.copied to.0 to.1) c.args.node.0 c.requires.owned

pub put_key-requires-clause-was_of_tree : goal.put_key-requires-clause-was_of_tree
put_key-requires-clause-was_of_tree g c =
    let to = some_owner (page_tree c.args.owner) c.requires.tree in
    copy_tree (kernel_of (g.T.Store.memory c.args.store.now)) (kernel_of (g.T.Store.memory c.take_copy-fresh.new.store)) (place_of c.args.node.0 c.args.digit) c.args.found.0 c.take_copy-fresh.result.0 c.args.owner to.0
    c.requires.stands (c.take_copy-fresh.ensures.copied to.0 to.1)

pub lower_leaf-requires-clause-owned : goal.lower_leaf-requires-clause-owned
lower_leaf-requires-clause-owned g c real =
    let to = some_owner (page_tree c.args.owner) c.requires.tree in
    found_put (kernel_of (g.T.Store.memory c.args.store.now)) (kernel_of (g.T.Store.memory c.take_copy-fresh.new.store)) (place_of c.args.node.0 c.args.digit) c.args.found.0 c.take_copy-fresh.result.0 c.args.owner to.0
    c.requires.stands (c.take_copy-fresh.ensures.copied to.0 to.1) (kernel_of (g.T.Store.memory c.put_key.new.store)) c.put_key.ensures.put (c.requires.alive real)

pub lower_leaf-requires-clause-shared : goal.lower_leaf-requires-clause-shared
lower_leaf-requires-clause-shared g c real =
    let to = some_owner (page_tree c.args.owner) c.requires.tree in
    many_put (kernel_of (g.T.Store.memory c.args.store.now)) (kernel_of (g.T.Store.memory c.take_copy-fresh.new.store)) (place_of c.args.node.0 c.args.digit) c.args.found.0 c.take_copy-fresh.result.0 c.args.owner to.0
    c.requires.stands (c.take_copy-fresh.ensures.copied to.0 to.1) (kernel_of (g.T.Store.memory c.put_key.new.store)) c.put_key.ensures.put (c.requires.alive real) (c.requires.shared real)

pub returns-clause-copied : goal.returns-clause-copied
returns-clause-copied g c to tree =
    copies_leaf (kernel_of (g.T.Store.memory c.args.store.now)) (kernel_of (g.T.Store.memory c.take_copy-fresh.new.store)) (kernel_of (g.T.Store.memory c.put_key.new.store)) (kernel_of (g.T.Store.memory c.lower_leaf.new.store))
    (place_of c.args.node.0 c.args.digit) c.args.found.0 c.take_copy-fresh.result.0 c.args.owner to
    c.requires.stands (c.take_copy-fresh.ensures.copied to tree) c.put_key.ensures.put (c.lower_leaf.ensures.lowered true)

pub returns-clause-blocks : goal.returns-clause-blocks
returns-clause-blocks g c =
    more_at_most 5 (omega arith) c.take_copy-fresh.ensures.blocks
    (more_at_most 2 (omega arith) (at_most 1 (omega arith) c.put_key.ensures.blocks) c.lower_leaf.ensures.blocks)
