use Rattle.unix_laws.proofs.EnteredAgain.{entered_lasts}
use Rattle.unix_laws.proofs.lasting.entered_lasts.Goals as goal

pub returns : goal.returns
returns c = entered_lasts
