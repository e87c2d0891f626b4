use Rattle.unix_rules.proofs.Kin.{kin_kept}
use Rattle.unix_rules.proofs.processes.kin_kept.Goals as goal

pub returns : goal.returns
returns c = kin_kept
