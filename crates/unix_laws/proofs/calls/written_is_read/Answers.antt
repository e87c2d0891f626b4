use Rattle.unix_laws.proofs.SingleCalls.{written_is_read}
use Rattle.unix_laws.proofs.calls.written_is_read.Goals as goal

pub returns : goal.returns
returns c = written_is_read
