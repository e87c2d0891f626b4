use Rattle.unix_laws.proofs.DescriptorsFree.{two_free_descriptions_exist}
use Rattle.unix_laws.proofs.descriptors.two_free_descriptions_exist.Goals as goal

pub returns : goal.returns
returns c = two_free_descriptions_exist
