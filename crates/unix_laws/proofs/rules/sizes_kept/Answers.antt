use Rattle.unix_laws.proofs.SizesKeep.{sizes_kept}
use Rattle.unix_laws.proofs.rules.sizes_kept.Goals as goal

pub returns : goal.returns
returns c = sizes_kept
