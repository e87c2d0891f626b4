use Rattle.kernel_machine.proofs.BufferStands.{standing_without_buffer}
use Rattle.kernel_machine.proofs.standing.standing_without_buffer.Goals as goal

pub returns : goal.returns
returns c = standing_without_buffer
