use Rattle.kernel_tables.specs.Blocks.{machine_block}
use Rattle.kernel_tables.proofs.BlockLaws.{one_block}
use Rattle.space_bank.proofs.promises.unpromise.Goals as goal

pub returns-clause-blocks : goal.returns-clause-blocks
returns-clause-blocks g c = one_block machine_block c.set_promised.ensures.one_block
