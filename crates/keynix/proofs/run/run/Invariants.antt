use Rattle.std.proofs.Common.{◌-◌, ◌≡◌, ℕ, ◌≤◌, List, Some, false}
use Rattle.unix_model.specs.Calls.{call_of}
use Rattle.unix_model.specs.Schedule.{unix_run}
use Rattle.flat_unix.specs.FlatView.{unix_of}
use Rattle.keynix.specs.Rows.{GoesOn}
use Rattle.keynix.specs.Schedules.{schedule_of}
use Rattle.keynix.proofs.run.run.Given as goal

abbrev pub invariant-turns : goal.invariant-turns
invariant-turns g l = record {
  so_far : (bytes : List ℕ) → g.S.Source.left l.fn.input ≡ Some bytes → GoesOn (unix_run call_of l.turns (unix_of l.fn.flat) (schedule_of l.fn.schedule) bytes) (l.turns - l.made) bytes g.S.Source.left g.K.Sink.grew (unix_of l.flat) (schedule_of l.schedule) l.made false l.input l.fn.output l.output;
  few : l.made ≤ l.turns;
  input_same : g.S.Source.faults l.input ≡ g.S.Source.faults l.fn.input;
  output_same : g.K.Sink.faults l.output ≡ g.K.Sink.faults l.fn.output;
  input_counted : g.S.Source.faults l.fn.input ≤ g.S.Source.faults l.input;
  output_counted : g.K.Sink.faults l.fn.output ≤ g.K.Sink.faults l.output;
}

abbrev pub decreases-turns : goal.decreases-turns
decreases-turns g l = l.turns - l.made
