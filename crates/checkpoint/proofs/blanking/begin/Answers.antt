use Rattle.std.proofs.Common.{ap, ◌∙◌, length}
use Rattle.checkpoint.proofs.BlankLaws.{length-resized_one, one-zero}
use Rattle.checkpoint.proofs.blanking.begin.Goals as goal

pub zero-requires-clause-one : goal.zero-requires-clause-one
zero-requires-clause-one g c told = ap length (c.in-Ok.ensures.contents told) ∙ length-resized_one _

pub lengthen-requires-clause-zero : goal.lengthen-requires-clause-zero
lengthen-requires-clause-zero g c told =
    c.in-Ok-zero.ensures.contents told ∙ one-zero _ (ap length (c.in-Ok.ensures.contents told) ∙ length-resized_one _)
