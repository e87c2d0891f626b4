use Rattle.kernel_machine.proofs.MemoryLaws.{memory_changed}
use Rattle.kernel_machine.proofs.views.memory_changed.Goals as goal

pub returns : goal.returns
returns c = memory_changed
