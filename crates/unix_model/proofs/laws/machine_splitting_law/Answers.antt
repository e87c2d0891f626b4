use Rattle.unix_model.proofs.laws.machine_splitting_law.Goals as goal
use Rattle.unix_model.proofs.Splitting.{splitting}

pub returns : goal.returns
returns c start = λ machine n m state schedule input once going. splitting machine once n m state schedule input going
