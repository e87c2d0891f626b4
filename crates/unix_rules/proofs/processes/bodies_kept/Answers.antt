use Rattle.unix_rules.proofs.Bodies.{bodies_kept}
use Rattle.unix_rules.proofs.processes.bodies_kept.Goals as goal

pub returns : goal.returns
returns c = bodies_kept
