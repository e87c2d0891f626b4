use Rattle.kernel_machine.proofs.ViewLaws.{domain_born}
use Rattle.kernel_machine.proofs.views.domain_born.Goals as goal

pub returns : goal.returns
returns c = domain_born
