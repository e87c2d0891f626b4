use Rattle.unix_laws.proofs.DescriptorsKeep.{descriptors_kept}
use Rattle.unix_laws.proofs.rules.descriptors_kept.Goals as goal

pub returns : goal.returns
returns c = descriptors_kept
