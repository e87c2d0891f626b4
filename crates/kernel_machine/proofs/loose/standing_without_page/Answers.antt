use Rattle.kernel_machine.proofs.PageStands.{standing_without_page}
use Rattle.kernel_machine.proofs.loose.standing_without_page.Goals as goal

pub returns : goal.returns
returns c = standing_without_page
