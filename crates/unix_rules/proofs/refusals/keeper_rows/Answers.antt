use Rattle.unix_rules.proofs.Rows.{keeper_rows}
use Rattle.unix_rules.proofs.refusals.keeper_rows.Goals as goal

pub returns : goal.returns
returns c = keeper_rows
