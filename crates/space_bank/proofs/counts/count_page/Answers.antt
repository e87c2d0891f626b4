use Rattle.kernel_tables.specs.Blocks.{page_entry_block}
use Rattle.kernel_tables.proofs.BlockLaws.{one_block}
use Rattle.space_bank.proofs.counts.count_page.Goals as goal

pub returns-clause-blocks : goal.returns-clause-blocks
returns-clause-blocks g c = one_block (page_entry_block c.args.n) c.set_page_entry.ensures.one_block
