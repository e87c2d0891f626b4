use Rattle.unix_laws.proofs.OpenTurns.{open_kept}
use Rattle.unix_laws.proofs.rules.open_kept.Goals as goal

pub returns : goal.returns
returns c = open_kept
