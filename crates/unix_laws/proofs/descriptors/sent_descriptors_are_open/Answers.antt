use Rattle.unix_laws.proofs.Tested.{sent_descriptors_are_open}
use Rattle.unix_laws.proofs.descriptors.sent_descriptors_are_open.Goals as goal

pub returns : goal.returns
returns c = sent_descriptors_are_open
