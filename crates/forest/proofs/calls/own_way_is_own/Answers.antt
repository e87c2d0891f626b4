use Rattle.forest.proofs.CallLaws.{own_way_is_own}
use Rattle.forest.proofs.calls.own_way_is_own.Goals as goal

pub returns : goal.returns
returns c = own_way_is_own
