use Rattle.domain.proofs.Living.{services_there}
use Rattle.domain.proofs.laws.services_are_there.Goals as goal

pub returns : goal.returns
returns c = services_there
