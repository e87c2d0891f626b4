use Rattle.std.proofs.Common.{arith}
use Rattle.flat_files.specs.InodeView.{description_of}
use Rattle.flat_files.specs.DescriptionsView.{descriptions_of}
use Rattle.flat_files.proofs.SlotLaws.{table-set}
use Rattle.flat_files.proofs.descriptions.Descriptions.set.Goals as goal

pub returns : goal.returns
unfolding descriptions_of
returns c = table-set description_of c.args.self.now.items.items c.args.number c.args.description (omega (arith, c.args.self.now.full))
