use Rattle.unix_laws.proofs.PutsFew.{turn_puts}
use Rattle.unix_laws.proofs.console.turn_puts_few.Goals as goal

pub returns : goal.returns
returns c = turn_puts
