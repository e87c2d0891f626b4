use Rattle.kernel_machine.proofs.StandingLaws.{slots_gone}
use Rattle.kernel_machine.proofs.standing.slots_gone.Goals as goal

pub returns : goal.returns
returns c = slots_gone
