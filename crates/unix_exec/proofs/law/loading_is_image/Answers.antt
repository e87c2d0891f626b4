use Rattle.unix_exec.proofs.Images.{loading_law}
use Rattle.unix_exec.proofs.law.loading_is_image.Goals as goal

pub returns : goal.returns
returns c = loading_law
