use Rattle.kernel_machine.proofs.ViewLaws.{words_changed}
use Rattle.kernel_machine.proofs.views.words_changed.Goals as goal

pub returns : goal.returns
returns c = words_changed
