use Rattle.space_bank.proofs.HandLaws.{handed-out}
use Rattle.space_bank.proofs.laws.handed_out.Goals as goal

pub returns : goal.returns
returns c = handed-out
