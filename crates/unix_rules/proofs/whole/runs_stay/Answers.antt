use Rattle.unix_rules.proofs.Runs.{runs_kept}
use Rattle.unix_rules.proofs.whole.runs_stay.Goals as goal

pub returns : goal.returns
returns c = runs_kept
