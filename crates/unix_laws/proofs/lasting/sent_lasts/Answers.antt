use Rattle.unix_laws.proofs.Lasts.{sent_lasts}
use Rattle.unix_laws.proofs.lasting.sent_lasts.Goals as goal

pub returns : goal.returns
returns c = sent_lasts
