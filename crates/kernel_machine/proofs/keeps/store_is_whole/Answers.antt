use Rattle.kernel_machine.proofs.OwnerLaws.{store_is_whole}
use Rattle.kernel_machine.proofs.keeps.store_is_whole.Goals as goal

pub returns : goal.returns
returns c = store_is_whole
