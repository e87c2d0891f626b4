use Rattle.std.proofs.Common.{◌+◌, ◌%◌, ◌<◌, ap, ◌∙◌, arith}
use Rattle.std.proofs.Math.Nat.{mod-lt}
use Rattle.flat_unix.proofs.FreeTurns.{sum-inside, sum-over}
use Rattle.flat_unix.proofs.flat.advanced.Goals as goal

pub returns-then-next-round : goal.returns-then-next-round
returns-then-next-round c =
    sum-inside c.args.position c.remainder.result c.args.round c.if-next-round.true ∙ ap (λ turns. (c.args.position + turns) % c.args.round) c.remainder.ensures

pub returns-else-next-round : goal.returns-else-next-round
returns-else-next-round c =
    let some : 0 < c.args.round = omega (arith, c.requires.inside) in
    let less : c.remainder.result < c.args.round = rw c.remainder.ensures (mod-lt c.args.number some) in
    sum-over c.args.position c.remainder.result c.args.round c.requires.inside less c.if-next-round.false
    ∙ ap (λ turns. (c.args.position + turns) % c.args.round) c.remainder.ensures
