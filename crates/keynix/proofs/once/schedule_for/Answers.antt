use Rattle.std.proofs.Common.{ap}
use Rattle.keynix.specs.Schedules.{slots_left}
use Rattle.command_line.specs.WordsView.{plan_view}
use Rattle.keynix.proofs.PlanSteps.{plan-read, plan-refused}
use Rattle.keynix.proofs.once.schedule_for.Goals as goal

pub returns-in-Ok-clause-reads : goal.returns-in-Ok-clause-reads
returns-in-Ok-clause-reads g c =
    plan-read (plan_view c.args.plan) (g.P.Source.left c.args.from.now) (g.P.Source.left c.read_plan.new.from) c.in-Ok.spans.items (slots_left c.new.result) (ap plan_view c.in-Given.is) c.in-Ok.ensures.taken c.new.ensures

pub returns-in-Err-BadPlan-clause-reads : goal.returns-in-Err-BadPlan-clause-reads
returns-in-Err-BadPlan-clause-reads g c =
    plan-refused (plan_view c.args.plan) (g.P.Source.left c.args.from.now) c.in-Err-BadPlan.line (ap plan_view c.in-Given.is) (rw c.in-Err-BadPlan.field-0-is at c.in-Err-BadPlan.ensures.fault)
