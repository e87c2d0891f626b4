use Rattle.unix_rules.proofs.Walks.{walks_stand}
use Rattle.unix_rules.proofs.files.walks_stand.Goals as goal

pub returns : goal.returns
returns c = walks_stand
