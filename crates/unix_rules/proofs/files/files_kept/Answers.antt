use Rattle.unix_rules.proofs.FileTurns.{files_kept}
use Rattle.unix_rules.proofs.files.files_kept.Goals as goal

pub returns : goal.returns
returns c = files_kept
