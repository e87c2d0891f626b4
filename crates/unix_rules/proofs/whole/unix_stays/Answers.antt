use Rattle.unix_rules.proofs.Boot.{boot_gives_unix, unix_kept}
use Rattle.unix_rules.proofs.whole.unix_stays.Goals as goal

pub returns : goal.returns
returns c = record { boot = boot_gives_unix; turn = unix_kept }
