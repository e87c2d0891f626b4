use Rattle.domain.proofs.Ruled.{fields_good}
use Rattle.domain.proofs.laws.fields_are_good.Goals as goal

pub returns : goal.returns
returns c = fields_good
