use Rattle.kernel_machine.proofs.ViewLaws.{lives_unseen}
use Rattle.kernel_machine.proofs.views.lives_unseen.Goals as goal

pub returns : goal.returns
returns c = lives_unseen
