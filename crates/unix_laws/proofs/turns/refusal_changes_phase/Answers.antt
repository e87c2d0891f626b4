use Rattle.unix_laws.proofs.EveryTurn.{refusal_changes}
use Rattle.unix_laws.proofs.turns.refusal_changes_phase.Goals as goal

pub returns : goal.returns
returns c = refusal_changes
