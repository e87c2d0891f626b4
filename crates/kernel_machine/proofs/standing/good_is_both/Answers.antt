use Rattle.kernel_machine.proofs.StandingLaws.{good_is_both}
use Rattle.kernel_machine.proofs.standing.good_is_both.Goals as goal

pub returns : goal.returns
returns c = good_is_both
