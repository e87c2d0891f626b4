use Rattle.std.proofs.Common.{subst}
use Rattle.std.specs.Prelude.{All}
use Rattle.std.proofs.lemmas.List.{take_all}
use Rattle.std.proofs.lemmas.List.Elements.{All-more}
use Rattle.unix_exec.specs.Plans.{IsLow}
use Rattle.tests_spaces.proofs.loading.are_low.Goals as goal

pub loop-load-preserved : goal.loop-load-preserved
loop-load-preserved c = All-more IsLow c.args.loads.now c.loop-load.load-index _ c.loop-load-test.true c.loop-load.invariant (record { low = c.if-load-gt2147352576.false })

pub returns : goal.returns
returns c told = subst (All IsLow) (take_all c.loop-load.load-index c.args.loads.now c.loop-load-test.false) c.loop-load.invariant
