use Rattle.kernel_machine.proofs.ViewLaws.{description_freed}
use Rattle.kernel_machine.proofs.views.description_freed.Goals as goal

pub returns : goal.returns
returns c = description_freed
