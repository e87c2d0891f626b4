use Rattle.kernel_machine.proofs.BufferStands.{standing_with_buffer}
use Rattle.kernel_machine.proofs.standing.standing_with_buffer.Goals as goal

pub returns : goal.returns
returns c = standing_with_buffer
