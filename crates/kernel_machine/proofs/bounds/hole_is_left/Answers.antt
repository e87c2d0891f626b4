use Rattle.kernel_machine.proofs.HolesLeft.{hole_is_left}
use Rattle.kernel_machine.proofs.bounds.hole_is_left.Goals as goal

pub returns : goal.returns
returns c = hole_is_left
