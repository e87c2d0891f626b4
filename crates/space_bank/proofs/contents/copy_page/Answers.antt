use Rattle.kernel_tables.proofs.BlockLaws.{one_block}
use Rattle.space_bank.proofs.contents.copy_page.Goals as goal

pub returns-clause-blocks : goal.returns-clause-blocks
returns-clause-blocks g c = one_block c.args.to.0 c.copy_bank_page.ensures.one_block
