use Rattle.kernel_machine.proofs.KeepLaws.{trees_with_numbers}
use Rattle.kernel_machine.proofs.keeps.trees_with_numbers.Goals as goal

pub returns : goal.returns
returns c = trees_with_numbers
