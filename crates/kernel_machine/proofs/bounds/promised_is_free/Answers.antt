use Rattle.kernel_machine.proofs.GoodBounds.{promised_is_free}
use Rattle.kernel_machine.proofs.bounds.promised_is_free.Goals as goal

pub returns : goal.returns
returns c = promised_is_free
