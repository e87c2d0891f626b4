use Rattle.kernel_tables.proofs.BlockLaws.{one_block}
use Rattle.space_bank.proofs.contents.write_page.Goals as goal

pub returns-clause-blocks : goal.returns-clause-blocks
returns-clause-blocks g c = one_block c.args.page.0 c.write_bank_page.ensures.one_block
