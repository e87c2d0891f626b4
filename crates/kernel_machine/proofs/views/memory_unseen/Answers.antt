use Rattle.kernel_machine.proofs.MemoryLaws.{memory_unseen}
use Rattle.kernel_machine.proofs.views.memory_unseen.Goals as goal

pub returns : goal.returns
returns c = memory_unseen
