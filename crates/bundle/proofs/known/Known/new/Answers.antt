use Rattle.std.proofs.Common.{rules}
use Rattle.std.proofs.Math.Path.{fun_ext}
use Rattle.bundle.proofs.known.Known.new.Goals as goal

pub returns-in-Ok-with_capacity : goal.returns-in-Ok-with_capacity
returns-in-Ok-with_capacity c = fun_ext (λ other. search rules)
