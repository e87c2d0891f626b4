use Rattle.unix_laws.proofs.SingleCalls.{new_name_goes}
use Rattle.unix_laws.proofs.calls.new_name_goes.Goals as goal

pub returns : goal.returns
returns c = new_name_goes
