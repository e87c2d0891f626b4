use Rattle.std.proofs.Common.{subst}
use Rattle.std.specs.Prelude.{All}
use Rattle.kernel_tables.specs.Kernel.{kernel_of}
use Rattle.unix_exec.specs.Plans.{IsLow}
use Rattle.tests_spaces.proofs.Loads.{begun}
use Rattle.tests_spaces.proofs.loading.begins.Goals as goal

pub returns : goal.returns
returns g c =
    begun (kernel_of (g.T.Store.memory c.add_space.new.store)) (kernel_of (g.T.Store.memory c.map_plan.new.store)) c.in-Some.space.0.0 c.args.plan.now.loads.items
    c.add_space.ensures.ready c.in-Some.ensures.added c.map_plan.ensures.good
    (subst (λ loads. All IsLow loads) c.as_slice.ensures.value (c.are_low.ensures c.if-not-are_low.false)) c.map_plan.ensures.mapped c.map_plan.ensures.needed
