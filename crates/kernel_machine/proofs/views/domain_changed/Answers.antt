use Rattle.kernel_machine.proofs.ViewLaws.{domain_changed}
use Rattle.kernel_machine.proofs.views.domain_changed.Goals as goal

pub returns : goal.returns
returns c = domain_changed
