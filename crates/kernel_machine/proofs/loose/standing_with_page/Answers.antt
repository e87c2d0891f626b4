use Rattle.kernel_machine.proofs.PageStands.{standing_with_page}
use Rattle.kernel_machine.proofs.loose.standing_with_page.Goals as goal

pub returns : goal.returns
returns c = standing_with_page
