use Rattle.kernel_machine.proofs.MemoryLaws.{tree_changed}
use Rattle.kernel_machine.proofs.views.tree_changed.Goals as goal

pub returns : goal.returns
returns c = tree_changed
