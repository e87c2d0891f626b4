use Rattle.std.proofs.Common.{◌≡◌, ◌++◌, take, drop}
use Rattle.rv_asm.specs.declared.lines.Quoting.TheVariants.{Outside}
use Rattle.rv_asm.specs.Lines as model
use Rattle.rv_asm.proofs.lines.before_comment.Given as goal

abbrev pub invariant-loop-place : goal.invariant-loop-place
invariant-loop-place l =
    model.before_comment Outside l.line ≡ take l.place l.line ++ model.before_comment l.quoting (drop l.place l.line)
