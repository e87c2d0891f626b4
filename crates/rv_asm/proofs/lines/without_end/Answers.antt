use Rattle.std.proofs.Common.{arith}
use Rattle.std.proofs.lemmas.Grind.{common_steps}
use Rattle.std.proofs.lemmas.Bool.Decides.{nat_tests}
use Rattle.rv_asm.proofs.LineLaws.{blank_goes}
use Rattle.rv_asm.proofs.lines.without_end.Goals as goal

pub loop-rest-preserved : goal.loop-rest-preserved
loop-rest-preserved c = (grind (arith, nat_tests, common_steps, blank_goes), grind (arith, common_steps))
