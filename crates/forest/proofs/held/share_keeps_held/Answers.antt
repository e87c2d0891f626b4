use Rattle.forest.proofs.ShareLaws.{share_keeps_held}
use Rattle.forest.proofs.held.share_keeps_held.Goals as goal

pub returns : goal.returns
returns c = share_keeps_held
