use Rattle.unix_laws.proofs.SingleCalls.{pipe_takes_at_end}
use Rattle.unix_laws.proofs.calls.pipe_takes_at_end.Goals as goal

pub returns : goal.returns
returns c = pipe_takes_at_end
