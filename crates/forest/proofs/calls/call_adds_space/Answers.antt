use Rattle.forest.proofs.RootLaws.{call_adds_space}
use Rattle.forest.proofs.calls.call_adds_space.Goals as goal

pub returns : goal.returns
returns c = call_adds_space
