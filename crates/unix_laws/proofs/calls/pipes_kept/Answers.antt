use Rattle.unix_laws.proofs.PipesKeep.{pipes_kept}
use Rattle.unix_laws.proofs.calls.pipes_kept.Goals as goal

pub returns : goal.returns
returns c = pipes_kept
