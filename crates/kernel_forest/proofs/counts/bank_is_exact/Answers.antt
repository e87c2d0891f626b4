use Rattle.kernel_forest.proofs.Bridge.{bank_exact}
use Rattle.kernel_forest.proofs.counts.bank_is_exact.Goals as goal

pub returns : goal.returns
returns c = bank_exact
