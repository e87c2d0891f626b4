use Rattle.unix_laws.proofs.BootRuled.{boot_gives_rules}
use Rattle.unix_laws.proofs.rules.boot_gives_rules.Goals as goal

pub returns : goal.returns
returns c = boot_gives_rules
