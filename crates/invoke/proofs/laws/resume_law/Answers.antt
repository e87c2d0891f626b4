use Rattle.invoke.proofs.ResumeLaws.{void_later}
use Rattle.invoke.proofs.laws.resume_law.Goals as goal

pub returns : goal.returns
returns c = void_later
