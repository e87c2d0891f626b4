use Rattle.forest.proofs.RootLaws.{call_shares_space}
use Rattle.forest.proofs.calls.call_shares_space.Goals as goal

pub returns : goal.returns
returns c = call_shares_space
