use Rattle.kernel_machine.proofs.ViewLaws.{domain_gone}
use Rattle.kernel_machine.proofs.views.domain_gone.Goals as goal

pub returns : goal.returns
returns c = domain_gone
