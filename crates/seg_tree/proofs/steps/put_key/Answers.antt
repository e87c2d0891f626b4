use Rattle.kernel_tables.specs.Kernel.{kernel_of}
use Rattle.kernel_forest.proofs.Moves.{puts_key, node_below, node_used}
use Rattle.seg_tree.proofs.steps.put_key.Goals as goal

pub returns-clause-put : goal.returns-clause-put
returns-clause-put g c =
    puts_key (kernel_of (g.T.Store.memory c.args.store.now)) (kernel_of (g.T.Store.memory c.write_key.new.store)) c.args.node.0 c.args.digit c.args.key
    c.requires.good c.requires.owned c.requires.digit c.requires.of_tree c.requires.was_of_tree c.write_key.ensures.written c.write_key.ensures.shares

pub write_key-requires-clause-inside : goal.write_key-requires-clause-inside
write_key-requires-clause-inside g c = node_below (kernel_of (g.T.Store.memory c.args.store.now)) c.args.node.0 c.requires.good c.requires.owned

pub write_key-requires-clause-used : goal.write_key-requires-clause-used
write_key-requires-clause-used g c = node_used (kernel_of (g.T.Store.memory c.args.store.now)) c.args.node.0 c.requires.owned

pub returns-clause-blocks : goal.returns-clause-blocks
returns-clause-blocks g c = c.write_key.ensures.blocks
