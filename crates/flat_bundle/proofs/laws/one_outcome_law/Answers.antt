use Rattle.flat_bundle.proofs.OutcomeLaws.{one_outcome}
use Rattle.flat_bundle.proofs.laws.one_outcome_law.Goals as goal

pub returns : goal.returns
returns c = one_outcome c.one_file_law.ensures
