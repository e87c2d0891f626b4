use Rattle.unix_laws.proofs.DescriptorsKeep.{slots_have_descriptors}
use Rattle.unix_laws.proofs.rules.slots_have_descriptors.Goals as goal

pub returns : goal.returns
returns c = slots_have_descriptors
