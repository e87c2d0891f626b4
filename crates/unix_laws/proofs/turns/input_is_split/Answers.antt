use Rattle.unix_laws.proofs.EveryTurn.{input_splits}
use Rattle.unix_laws.proofs.turns.input_is_split.Goals as goal

pub returns : goal.returns
returns c = input_splits
