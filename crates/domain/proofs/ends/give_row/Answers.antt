use Rattle.kernel_tables.specs.Kernel.{kernel_of}
use Rattle.domain.proofs.Clearing.{gives_back, once_place}
use Rattle.domain.proofs.ends.give_row.Goals as goal

pub give_node-requires-clause-unnamed : goal.give_node-requires-clause-unnamed
give_node-requires-clause-unnamed g c =
    once_place (kernel_of (g.T.Store.memory c.args.store.now)) (kernel_of (g.T.Store.memory c.clear_row.new.store)) c.args.node.0 c.clear_row.ensures.good c.requires.once c.clear_row.ensures.cleared
    c.requires.in_hand.0 c.requires.in_hand.1 c.requires.in_hand.2 c.requires.in_hand.3 c.requires.in_hand.4

pub returns-clause-given : goal.returns-clause-given
returns-clause-given g c =
    gives_back (kernel_of (g.T.Store.memory c.args.store.now)) (kernel_of (g.T.Store.memory c.clear_row.new.store)) (kernel_of (g.T.Store.memory c.give_node.new.store)) c.args.node.0
    c.clear_row.ensures.good c.requires.once c.clear_row.ensures.cleared c.give_node.ensures.given c.give_node.ensures.shares
