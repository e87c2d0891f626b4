use Rattle.kernel_machine.proofs.StandingLaws.{slots_born}
use Rattle.kernel_machine.proofs.standing.slots_born.Goals as goal

pub returns : goal.returns
returns c = slots_born
