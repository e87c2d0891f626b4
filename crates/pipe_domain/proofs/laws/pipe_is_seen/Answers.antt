use Rattle.pipe_domain.proofs.SeenLaws.{pipe-in-state}
use Rattle.pipe_domain.proofs.laws.pipe_is_seen.Goals as goal

pub returns : goal.returns
returns c = pipe-in-state
