use Rattle.std.proofs.Common.{◌≡◌, ◌≤◌, length}
use Rattle.rv_asm.specs.Lines as model
use Rattle.rv_asm.proofs.lines.without_end.Given as goal

abbrev pub invariant-loop-rest : goal.invariant-loop-rest
invariant-loop-rest l = (model.without_end l.rest ≡ model.without_end l.text) × (length l.rest ≤ length l.text)

abbrev pub decreases-loop-rest : goal.decreases-loop-rest
decreases-loop-rest l = length l.rest
