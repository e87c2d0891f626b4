use Rattle.asm_laws.proofs.Accepted.{accepted}
use Rattle.asm_laws.proofs.files.accepted_law.Goals as goal

pub returns : goal.returns
returns c = record { accepted = accepted }
