use Rattle.kernel_tables.specs.Kernel.{kernel_of}
use Rattle.kernel_tables.specs.Blocks.{node_entry_block}
use Rattle.kernel_tables.proofs.BlockLaws.{one_block}
use Rattle.space_bank.proofs.counts.count_node.Goals as goal

pub returns-clause-blocks : goal.returns-clause-blocks
returns-clause-blocks g c = one_block (node_entry_block (kernel_of (g.T.Store.memory c.args.store.now)).size c.args.node.0) c.set_node_entry.ensures.one_block
