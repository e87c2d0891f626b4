use Rattle.kernel_forest.proofs.ApartLaws.{page_stays_apart}
use Rattle.kernel_forest.proofs.apart.page_stays_apart.Goals as goal

pub returns : goal.returns
returns c = page_stays_apart
