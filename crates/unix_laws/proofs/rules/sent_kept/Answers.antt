use Rattle.unix_laws.proofs.SentKeep.{sent_kept}
use Rattle.unix_laws.proofs.rules.sent_kept.Goals as goal

pub returns : goal.returns
returns c = sent_kept
