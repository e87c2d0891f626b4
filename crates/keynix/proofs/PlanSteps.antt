-- The plan that was read.
use Rattle.std.proofs.Common.{◌≡◌, ℕ, List, Option, Ok, Err, sym, ap, ◌∙◌}
use Rattle.plan.specs.declared.span.Span.{Span}
use Rattle.plan.specs.declared.streams.PlanFault.TheVariants.{BadPlan}
use Rattle.plan.specs.Plans.{slots_of}
use Rattle.plan.specs.Streams.{FailsPlan, TakesPlan}
use Rattle.unix_model.specs.Schedule as schedules
use Rattle.keynix.specs.Endings.{IsPlan, PlanEnds, given_by, schedule_told}
use Rattle.command_line.specs.Words.{Plan, Round, Given}

-- the spans of the plan give the schedule, and the plan has ended
pub plan-read : (plan : Plan) (old new : Option (List ℕ)) (spans : List Span) (slots : List ℕ) → plan ≡ Given → TakesPlan old spans new → slots ≡ slots_of spans → (text : List ℕ) → IsPlan plan old text
    → (schedule_told plan text ≡ Ok (schedules.Given slots)) × PlanEnds plan new
plan-read Round old new spans slots given takes same text told = cc
plan-read Given old new spans slots given takes same text told =
    let read = takes text told in
    (ap given_by read.0 ∙ ap (λ slots. Ok (schedules.Given slots)) (sym same), read.1)

-- the plan is refused
pub plan-refused : (plan : Plan) (old : Option (List ℕ)) (line : ℕ) → plan ≡ Given → FailsPlan old (BadPlan line) → (text : List ℕ) → IsPlan plan old text → schedule_told plan text ≡ Err line
plan-refused Round old line given fails text told = cc
plan-refused Given old line given fails text told = ap given_by (fails text told)
