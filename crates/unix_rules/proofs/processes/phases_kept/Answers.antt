use Rattle.unix_rules.proofs.Phases.{phases_kept}
use Rattle.unix_rules.proofs.processes.phases_kept.Goals as goal

pub returns : goal.returns
returns c = phases_kept
