use Rattle.unix_rules.proofs.Instructions.{executed_stays}
use Rattle.unix_rules.proofs.processes.executed_stays.Goals as goal

pub returns : goal.returns
returns c = executed_stays
