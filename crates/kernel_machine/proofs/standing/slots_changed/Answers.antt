use Rattle.kernel_machine.proofs.StandingLaws.{slots_changed}
use Rattle.kernel_machine.proofs.standing.slots_changed.Goals as goal

pub returns : goal.returns
returns c = slots_changed
