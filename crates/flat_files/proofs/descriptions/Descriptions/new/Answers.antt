use Rattle.flat_files.specs.InodeView.{description_of}
use Rattle.flat_files.specs.DescriptionsView.{descriptions_of}
use Rattle.flat_files.proofs.SlotLaws.{table-none}
use Rattle.flat_files.proofs.descriptions.Descriptions.new.Goals as goal

pub returns : goal.returns
unfolding descriptions_of
returns c = table-none description_of _ c.in_ok-free_places.ensures.free
