use Rattle.std.proofs.Common.{[], not, sym, ap, ◌∙◌, arith}
use Rattle.unix_model.specs.Calls.{call_of}
use Rattle.unix_model.specs.Schedule.{is_idle, is_work}
use Rattle.unix_model.specs.Tables.{at}
use Rattle.unix_model.specs.Turn.{turned_at}
use Rattle.flat_file_calls.proofs.DescriptorLaws.{any-here}
use Rattle.flat_unix.specs.FlatView.{unix_of}
use Rattle.flat_unix.proofs.flat.Flat.is_idle.Goals as goal

pub returns-then-works : goal.returns-then-works
unfolding is_idle
returns-then-works c =
    sym (ap not (any-here (λ slot. is_work (turned_at call_of (unix_of c.args.self.now) slot [] (at (unix_of c.args.self.now).processes slot)).answer) c.loop-slot.slot 64 (omega (arith, c.loop-slot-test.true, c.loop-slot.auto.slot-end)) (sym c.works.ensures ∙ c.if-works.true)))
