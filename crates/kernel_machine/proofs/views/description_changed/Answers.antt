use Rattle.kernel_machine.proofs.ViewLaws.{description_changed}
use Rattle.kernel_machine.proofs.views.description_changed.Goals as goal

pub returns : goal.returns
returns c = description_changed
