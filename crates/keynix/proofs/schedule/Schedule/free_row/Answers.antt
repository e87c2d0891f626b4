use Rattle.std.proofs.Common.{◌≡◌, true, sym, subst}
use Rattle.unix_model.specs.Schedule.{is_spent, next_slot}
use Rattle.unix_model.specs.Tables.{at}
use Rattle.flat_unix.specs.FlatView.{unix_of}
use Rattle.flat_unix.specs.FreeTurns.{has_nothing_to_do}
use Rattle.keynix.specs.Rows.{GivesFree}
use Rattle.keynix.specs.Schedules.{row_slot, schedule_of}
use Rattle.keynix.proofs.schedule.Schedule.free_row.Goals as goal

pub returns-in-Given-clause-row : goal.returns-in-Given-clause-row
returns-in-Given-clause-row c = λ number few.
    let free = rw c.in-Given.is at c.requires.free in
    let given = rw c.in-Given.is at c.requires.given in
    subst (λ schedule. GivesFree (unix_of c.args.flat.now) (schedule_of schedule) number) (sym c.in-Given.is) (
      row_slot c.in-Given.given,
      c.row.ensures.row number few,
      subst (λ slot. has_nothing_to_do (at (unix_of c.args.flat.now).processes slot) ≡ true) (c.row.ensures.next (unix_of c.args.flat.now) given) free,
    )
