use Rattle.domain.proofs.Untaken.{untaken_rows}
use Rattle.domain.proofs.laws.untaken_rows_are_good.Goals as goal

pub returns : goal.returns
returns c = untaken_rows
