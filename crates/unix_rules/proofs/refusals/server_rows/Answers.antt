use Rattle.unix_rules.proofs.Rows.{server_rows}
use Rattle.unix_rules.proofs.refusals.server_rows.Goals as goal

pub returns : goal.returns
returns c = server_rows
