use Rattle.invoke.proofs.Leaving.{others_are_left}
use Rattle.invoke.proofs.laws.others_are_left.Goals as goal

pub returns : goal.returns
returns c = others_are_left
