use Rattle.unix_laws.proofs.WaitsFor.{waits_exactly}
use Rattle.unix_laws.proofs.lasting.waits_exactly.Goals as goal

pub returns : goal.returns
returns c = waits_exactly
