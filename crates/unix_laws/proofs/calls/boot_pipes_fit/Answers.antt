use Rattle.unix_laws.proofs.PipesKeep.{boot_pipes_fit}
use Rattle.unix_laws.proofs.calls.boot_pipes_fit.Goals as goal

pub returns : goal.returns
returns c = boot_pipes_fit
