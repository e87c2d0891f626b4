use Rattle.std.proofs.Common.{inl, inr, refl}
use Rattle.kernel_tables.specs.Kernel.{kernel_of}
use Rattle.kernel_tables.specs.Blocks.{machine_block, node_entry_block}
use Rattle.kernel_tables.proofs.BlockLaws.{no_block, one_more}
use Rattle.space_bank.proofs.nodes.use_node.Goals as goal

pub returns-clause-blocks : goal.returns-clause-blocks
returns-clause-blocks g c =
    let entry = one_more (node_entry_block (kernel_of (g.T.Store.memory c.args.store.now)).size c.args.node.0) no_block (inl refl) c.set_node_entry.ensures.one_block in
    let first = one_more machine_block entry (inr (inl refl)) c.set_free_node.ensures.one_block in
    one_more machine_block first (inr (inl refl)) c.set_nodes_taken.ensures.one_block
