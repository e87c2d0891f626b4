use Rattle.unix_laws.proofs.DescriptorsFree.{free_description_exists}
use Rattle.unix_laws.proofs.descriptors.free_description_exists.Goals as goal

pub returns : goal.returns
returns c = free_description_exists
