use Rattle.unix_rules.proofs.LinkAgain.{link_then_unlink}
use Rattle.unix_rules.proofs.names.link_then_unlink.Goals as goal

pub returns : goal.returns
returns c = link_then_unlink
