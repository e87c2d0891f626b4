use Rattle.unix_laws.proofs.PutsFew.{run_puts}
use Rattle.unix_laws.proofs.console.run_puts_few.Goals as goal

pub returns : goal.returns
returns c = run_puts
