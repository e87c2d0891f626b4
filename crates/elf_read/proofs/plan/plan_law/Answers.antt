use Rattle.elf_read.proofs.PlanLemmas.{plans_are_sound}
use Rattle.elf_read.proofs.plan.plan_law.Goals as goal

pub returns : goal.returns
returns c = plans_are_sound
