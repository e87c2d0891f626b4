use Rattle.pipe_domain.proofs.PipeLaws.{pipe-good}
use Rattle.pipe_domain.proofs.laws.pipe_is_good.Goals as goal

pub returns : goal.returns
returns c = pipe-good
