use Rattle.std.proofs.Common.{◌≡◌, Some, None, [], refl, arith}
use Rattle.kn_base.specs.declared.key.Key.TheVariants.{Null}
use Rattle.kernel_tables.specs.Kernel.{kernel_of}
use Rattle.seg_tree.proofs.BlockCounts.{more_at_most}
use Rattle.seg_tree.proofs.Cutting.{unmapped_trees, unmapped_space, unmapped_own, unmapped_ends, unmaps}
use Rattle.seg_tree.proofs.Mapping.{trees_nothing}
use Rattle.seg_tree.proofs.pruning.unmap.Goals as goal

pub put_leaf-was-requires-clause-trees : goal.put_leaf-was-requires-clause-trees
put_leaf-was-requires-clause-trees g c = (c.requires.trees.0, trees_nothing (kernel_of (g.T.Store.memory c.args.store.now)) c.requires.trees.0 Null refl tt c.requires.trees.1)

pub put_leaf-was-requires-clause-owners : goal.put_leaf-was-requires-clause-owners
put_leaf-was-requires-clause-owners g c object h = let no : None ≡ Some object = h in cc

pub release_leaf-requires-clause-hand : goal.release_leaf-requires-clause-hand
release_leaf-requires-clause-hand g c =
    (c.requires.trees.0, [], c.put_leaf-was.ensures.put.hand c.requires.trees.0 (trees_nothing (kernel_of (g.T.Store.memory c.args.store.now)) c.requires.trees.0 Null refl tt c.requires.trees.1))

pub release_leaf-requires-clause-leaf : goal.release_leaf-requires-clause-leaf
release_leaf-requires-clause-leaf g c = c.put_leaf-was.ensures.put.leaf

pub prune-requires-clause-trees : goal.prune-requires-clause-trees
prune-requires-clause-trees g c = (c.requires.trees.0, unmapped_trees (kernel_of (g.T.Store.memory c.args.store.now)) (kernel_of (g.T.Store.memory c.put_leaf-was.new.store)) (kernel_of (g.T.Store.memory c.release_leaf.new.store)) c.args.space.0.0 c.args.page c.put_leaf-was.result c.put_leaf-was.ensures.put c.release_leaf.ensures.released c.release_leaf.ensures.nodes c.requires.trees.0 c.requires.trees.1 c.requires.space)

pub prune-requires-clause-space : goal.prune-requires-clause-space
prune-requires-clause-space g c = unmapped_space (kernel_of (g.T.Store.memory c.args.store.now)) (kernel_of (g.T.Store.memory c.put_leaf-was.new.store)) (kernel_of (g.T.Store.memory c.release_leaf.new.store)) c.args.space.0.0 c.args.page c.put_leaf-was.result c.put_leaf-was.ensures.put c.release_leaf.ensures.released c.release_leaf.ensures.nodes c.requires.trees.0 c.requires.trees.1 c.requires.space

pub prune-requires-clause-own : goal.prune-requires-clause-own
prune-requires-clause-own g c = unmapped_own (kernel_of (g.T.Store.memory c.args.store.now)) (kernel_of (g.T.Store.memory c.put_leaf-was.new.store)) (kernel_of (g.T.Store.memory c.release_leaf.new.store)) c.args.space.0.0 c.args.page c.put_leaf-was.result c.put_leaf-was.ensures.put c.release_leaf.ensures.released c.release_leaf.ensures.nodes c.requires.trees.0 c.requires.trees.1 c.requires.space

pub prune-requires-clause-ends : goal.prune-requires-clause-ends
prune-requires-clause-ends g c = unmapped_ends (kernel_of (g.T.Store.memory c.args.store.now)) (kernel_of (g.T.Store.memory c.put_leaf-was.new.store)) (kernel_of (g.T.Store.memory c.release_leaf.new.store)) c.args.space.0.0 c.args.page c.put_leaf-was.result c.put_leaf-was.ensures.put c.release_leaf.ensures.released c.release_leaf.ensures.nodes c.requires.trees.0 c.requires.trees.1 c.requires.space

pub returns-clause-unmapped : goal.returns-clause-unmapped
returns-clause-unmapped g c = unmaps (kernel_of (g.T.Store.memory c.args.store.now)) (kernel_of (g.T.Store.memory c.put_leaf-was.new.store)) (kernel_of (g.T.Store.memory c.release_leaf.new.store)) c.args.space.0.0 c.args.page c.put_leaf-was.result c.put_leaf-was.ensures.put c.release_leaf.ensures.released c.release_leaf.ensures.nodes c.requires.trees.0 c.requires.trees.1 c.requires.space (kernel_of (g.T.Store.memory c.prune.new.store)) c.prune.ensures.pruned c.prune.ensures.ways c.prune.ensures.mapped_ways c.prune.ensures.filled

pub returns-clause-blocks : goal.returns-clause-blocks
returns-clause-blocks g c =
    more_at_most 104 (omega arith) c.put_leaf-was.ensures.blocks (more_at_most 19 (omega arith) c.release_leaf.ensures.blocks c.prune.ensures.blocks)
