use Rattle.std.proofs.Common.{◌≡◌, None, false, sym, subst}
use Rattle.unix_model.specs.Schedule.{is_spent, next_slot}
use Rattle.flat_unix.specs.FlatView.{unix_of}
use Rattle.keynix.specs.Schedules.{schedule_of}
use Rattle.keynix.proofs.schedule.Schedule.slot.Goals as goal

pub returns-in-Round-clause-next : goal.returns-in-Round-clause-next
returns-in-Round-clause-next c =
    subst (λ schedule. is_spent (schedule_of schedule) ≡ false → c.round_slot.result ≡ next_slot (unix_of c.args.flat.now) (schedule_of schedule)) (sym c.in-Round.is)
    (λ given. c.round_slot.ensures.slot None)

pub returns-in-Given-clause-next : goal.returns-in-Given-clause-next
returns-in-Given-clause-next c =
    subst (λ schedule. is_spent (schedule_of schedule) ≡ false → c.slot.result ≡ next_slot (unix_of c.args.flat.now) (schedule_of schedule)) (sym c.in-Given.is)
    (c.slot.ensures.next (unix_of c.args.flat.now))
