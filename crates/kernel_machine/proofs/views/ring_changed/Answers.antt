use Rattle.kernel_machine.proofs.RingLaws.{ring_changed}
use Rattle.kernel_machine.proofs.views.ring_changed.Goals as goal

pub returns : goal.returns
returns c = ring_changed
