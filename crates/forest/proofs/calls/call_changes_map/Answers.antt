use Rattle.forest.proofs.CallLaws.{call_changes_map}
use Rattle.forest.proofs.calls.call_changes_map.Goals as goal

pub returns : goal.returns
returns c = call_changes_map
