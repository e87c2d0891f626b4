use Rattle.unix_laws.proofs.SingleCalls.{pipe_gives_front}
use Rattle.unix_laws.proofs.calls.pipe_gives_front.Goals as goal

pub returns : goal.returns
returns c = pipe_gives_front
