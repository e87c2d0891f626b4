use Rattle.std.proofs.Common.{rules}
use Rattle.std.proofs.Math.Path.{fun_ext}
use Rattle.rv_asm.proofs.labels.Labels.new.Goals as goal

pub returns : goal.returns
returns c = fun_ext (λ other. search rules)
