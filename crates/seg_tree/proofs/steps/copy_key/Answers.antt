use Rattle.kernel_tables.specs.Kernel.{kernel_of}
use Rattle.kernel_tables.specs.Blocks.{key_block}
use Rattle.forest.specs.Walks.{place_of}
use Rattle.kernel_forest.specs.Trees.{forest_of}
use Rattle.seg_tree.proofs.Copying.{copies_key, copied_tree, copied_may, raised_owned, raised_was_tree, rest_block}
use Rattle.seg_tree.proofs.BlockCounts.{put_beside}
use Rattle.seg_tree.proofs.steps.copy_key.Goals as goal

pub raise_key-requires-clause-of_tree : goal.raise_key-requires-clause-of_tree
raise_key-requires-clause-of_tree g c =
    copied_tree (forest_of (kernel_of (g.T.Store.memory c.args.store.now))) c.args.from.0 c.args.to.0 c.args.digit c.tree_key-key.result c.requires.may c.tree_key-key.ensures

pub raise_key-requires-clause-may : goal.raise_key-requires-clause-may
raise_key-requires-clause-may g c =
    copied_may (forest_of (kernel_of (g.T.Store.memory c.args.store.now))) c.args.from.0 c.args.to.0 c.args.digit c.tree_key-key.result c.requires.may c.tree_key-key.ensures

pub put_key-requires-clause-owned : goal.put_key-requires-clause-owned
put_key-requires-clause-owned g c =
    raised_owned (kernel_of (g.T.Store.memory c.args.store.now)) (kernel_of (g.T.Store.memory c.raise_key.new.store)) c.tree_key-key.result c.args.to.0 c.raise_key.ensures.raised c.requires.may.to_owned

pub put_key-requires-clause-of_tree : goal.put_key-requires-clause-of_tree
put_key-requires-clause-of_tree g c =
    copied_tree (forest_of (kernel_of (g.T.Store.memory c.args.store.now))) c.args.from.0 c.args.to.0 c.args.digit c.tree_key-key.result c.requires.may c.tree_key-key.ensures

pub put_key-requires-clause-was_of_tree : goal.put_key-requires-clause-was_of_tree
put_key-requires-clause-was_of_tree g c =
    raised_was_tree (kernel_of (g.T.Store.memory c.args.store.now)) (kernel_of (g.T.Store.memory c.raise_key.new.store)) c.tree_key-key.result (place_of c.args.to.0 c.args.digit)
    c.raise_key.ensures.raised c.requires.may.was_null

pub returns-clause-copied : goal.returns-clause-copied
returns-clause-copied g c =
    let old = kernel_of (g.T.Store.memory c.args.store.now) in
    let mid = kernel_of (g.T.Store.memory c.raise_key.new.store) in
    let new = kernel_of (g.T.Store.memory c.put_key.new.store) in
    copies_key old mid new c.args.from.0 c.args.to.0 c.args.digit c.tree_key-key.result c.requires.may c.tree_key-key.ensures c.raise_key.ensures.raised c.put_key.ensures.put

pub returns-clause-blocks : goal.returns-clause-blocks
returns-clause-blocks g c =
    let old = kernel_of (g.T.Store.memory c.args.store.now) in
    put_beside (key_block old.pages c.args.to.0) c.raise_key.ensures.blocks
    (rest_block old (kernel_of (g.T.Store.memory c.raise_key.new.store)) c.args.to.0 (g.T.Store.blocks c.raise_key.new.store) (g.T.Store.blocks c.put_key.new.store)
    c.raise_key.ensures.raised.steps.rest c.put_key.ensures.blocks)
