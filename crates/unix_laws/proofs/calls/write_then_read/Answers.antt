use Rattle.unix_laws.proofs.SingleCalls.{write_then_read}
use Rattle.unix_laws.proofs.calls.write_then_read.Goals as goal

pub returns : goal.returns
returns c = write_then_read
