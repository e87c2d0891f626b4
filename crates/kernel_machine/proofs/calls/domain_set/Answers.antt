use Rattle.kernel_machine.proofs.SetLaws.{domain_set}
use Rattle.kernel_machine.proofs.calls.domain_set.Goals as goal

pub returns : goal.returns
returns c = domain_set
