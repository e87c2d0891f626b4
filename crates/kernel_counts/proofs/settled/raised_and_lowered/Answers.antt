use Rattle.kernel_counts.proofs.TallyLaws.{raised_and_lowered}
use Rattle.kernel_counts.proofs.settled.raised_and_lowered.Goals as goal

pub returns : goal.returns
returns c = raised_and_lowered
