use Rattle.forest.proofs.CallLaws.{call_drops_space}
use Rattle.forest.proofs.calls.call_drops_space.Goals as goal

pub returns : goal.returns
returns c = call_drops_space
