use Rattle.unix_model.proofs.laws.splitting_law.Goals as goal
use Rattle.unix_model.proofs.RunLaws.{unix-starts-once}
use Rattle.unix_model.proofs.Splitting.{splitting}
use Rattle.unix_model.specs.Schedule.{unix_run, unix_machine}

pub returns : goal.returns
unfolding unix_run
returns c = λ calls n m unix schedule input going. splitting (unix_machine calls) (unix-starts-once calls) n m unix schedule input going
