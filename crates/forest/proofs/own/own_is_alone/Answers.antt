use Rattle.forest.proofs.OwnLaws.{own_is_alone}
use Rattle.forest.proofs.own.own_is_alone.Goals as goal

pub returns : goal.returns
returns c = own_is_alone
