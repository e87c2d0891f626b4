use Rattle.kernel_machine.proofs.RootStands.{standing_with_pipe}
use Rattle.kernel_machine.proofs.loose.standing_with_pipe.Goals as goal

pub returns : goal.returns
returns c = standing_with_pipe
