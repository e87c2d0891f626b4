use Rattle.kernel_tables.specs.Kernel.{kernel_of}
use Rattle.file_tables.specs.Roots.{named_by}
use Rattle.kernel_machine.proofs.OwnerLaws.{store_is_whole}
use Rattle.file_domain.proofs.Released.{no_tree, tree_loose, tree_released}
use Rattle.file_domain.proofs.dropping.give_tree.Goals as goal

pub drop_space-requires-clause-trees : goal.drop_space-requires-clause-trees
drop_space-requires-clause-trees g c =
    let old = kernel_of (g.T.Store.memory c.args.store.now) in (named_by old.inodes, (tree_loose old c.args.root c.if-root-ne0.true c.requires.loose).trees)

pub drop_space-requires-clause-space : goal.drop_space-requires-clause-space
drop_space-requires-clause-space g c = (tree_loose (kernel_of (g.T.Store.memory c.args.store.now)) c.args.root c.if-root-ne0.true c.requires.loose).is_loose.taken.0

pub returns-then-root-ne0-clause-released : goal.returns-then-root-ne0-clause-released
returns-then-root-ne0-clause-released g c =
    tree_released (kernel_of (g.T.Store.memory c.args.store.now)) c.args.root c.if-root-ne0.true c.requires.loose (kernel_of (g.T.Store.memory c.drop_space.new.store)) c.drop_space.ensures.dropped c.drop_space.ensures.good
    (store_is_whole (g.T.Store.memory c.drop_space.new.store) c.drop_space.ensures.good (g.met.T.Store.page_length c.drop_space.new.store))

pub returns-else-root-ne0-clause-released : goal.returns-else-root-ne0-clause-released
returns-else-root-ne0-clause-released g c = no_tree (kernel_of (g.T.Store.memory c.args.store.now)) c.args.root c.if-root-ne0.false c.requires.loose
