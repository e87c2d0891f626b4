use Rattle.unix_laws.proofs.EveryTurn.{blocked}
use Rattle.unix_laws.proofs.turns.blocked_changes_nothing.Goals as goal

pub returns : goal.returns
returns c = blocked
