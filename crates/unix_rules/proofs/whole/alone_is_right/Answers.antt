use Rattle.unix_rules.proofs.Boot.{alone_is_unix}
use Rattle.unix_rules.proofs.whole.alone_is_right.Goals as goal

pub returns : goal.returns
returns c = alone_is_unix
