use Rattle.unix_rules.proofs.Waiting.{waiting_lasts}
use Rattle.unix_rules.proofs.waits.waiting_lasts.Goals as goal

pub returns : goal.returns
returns c = waiting_lasts
