use Rattle.std.proofs.Common.{◌+◌, ◌-◌, true, false, refl, sym, ap, ◌∙◌, arith}
use Rattle.unix_model.specs.Calls.{call_of}
use Rattle.unix_model.specs.Machine.{Going, ended}
use Rattle.unix_model.specs.Schedule.{unix_run}
use Rattle.flat_unix.specs.FlatView.{unix_of}
use Rattle.keynix.specs.Runs.{stop_of}
use Rattle.keynix.specs.Schedules.{schedule_of}
use Rattle.keynix.proofs.RunSteps.{goes_on-ends, goes_on-lost, goes_on-more, goes_on-part, goes_on-same, run-begins, run-made, run-stopped}
use Rattle.keynix.proofs.run.run.Goals as goal

pub turns-init : goal.turns-init
turns-init g c = record {
  so_far = λ bytes told.
      goes_on-same g.S.Source.left g.K.Sink.grew (unix_run call_of c.args.turns (unix_of c.args.flat.now) (schedule_of c.args.schedule.now) bytes) bytes c.args.output.now c.args.turns (c.args.turns - 0) 0 0 false false (unix_of c.args.flat.now) (schedule_of c.begin.new.self) c.args.input.now c.args.output.now (omega arith) refl refl
      (run-begins g.S.Source.left g.K.Sink.grew c.args.turns (unix_of c.args.flat.now) (schedule_of c.args.schedule.now) (schedule_of c.begin.new.self) bytes c.args.input.now c.args.output.now g.met.K.Sink.grew_nothing c.begin.ensures told);
  few = omega arith;
  input_same = refl;
  output_same = refl;
  input_counted = omega arith;
  output_counted = omega arith;
}

pub returns-in-Some-clause-runs : goal.returns-in-Some-clause-runs
returns-in-Some-clause-runs g c = λ bytes told.
    goes_on-ends g.S.Source.left g.K.Sink.grew (unix_run call_of c.args.turns (unix_of c.args.flat.now) (schedule_of c.args.schedule.now) bytes) bytes c.args.output.now (c.args.turns - c.turns.made) c.turns.made (unix_of c.turns.flat) (schedule_of c.turns.schedule) false (stop_of c.in-Some.stop) c.turns.input c.turns.output
    (c.turns.invariant.so_far bytes told) (λ input. run-stopped (c.args.turns - c.turns.made) (unix_of c.turns.flat) (schedule_of c.turns.schedule) input (stop_of c.in-Some.stop) (sym c.in-Some.ensures))

pub returns-in-Err-clause-lost : goal.returns-in-Err-clause-lost
returns-in-Err-clause-lost g c = λ bytes told.
    goes_on-lost g.S.Source.left g.K.Sink.grew (unix_run call_of c.args.turns (unix_of c.args.flat.now) (schedule_of c.args.schedule.now) bytes) bytes c.args.output.now (c.args.turns - c.turns.made) c.turns.made (unix_of c.turns.flat) (schedule_of c.turns.schedule) c.turns.input c.turns.output (g.S.Source.left c.go_on.new.input)
    (c.turns.invariant.so_far bytes told) c.in-Err.ensures.lost

pub returns-in-Err-clause-part : goal.returns-in-Err-clause-part
returns-in-Err-clause-part g c = λ bytes told.
    goes_on-part g.S.Source.left g.K.Sink.grew (unix_run call_of c.args.turns (unix_of c.args.flat.now) (schedule_of c.args.schedule.now) bytes) bytes c.args.output.now g.met.K.Sink.part_joined (c.args.turns - c.turns.made) c.turns.made (unix_of c.turns.flat) (schedule_of c.turns.schedule) c.turns.input c.turns.output c.go_on.new.output
    (c.turns.invariant.so_far bytes told) c.in-Err.ensures.part

pub returns-then-advance-clause-runs : goal.returns-then-advance-clause-runs
returns-then-advance-clause-runs g c = λ bytes told.
    goes_on-ends g.S.Source.left g.K.Sink.grew (unix_run call_of c.args.turns (unix_of c.args.flat.now) (schedule_of c.args.schedule.now) bytes) bytes c.args.output.now (c.args.turns - c.turns.made - c.in-Ok.advance.turns) (c.turns.made + c.from-made.result) (unix_of c.go_on.new.flat) (schedule_of c.go_on.new.schedule) true (stop_of c.idle_stop-stop.result) c.go_on.new.input c.go_on.new.output
    (goes_on-same g.S.Source.left g.K.Sink.grew (unix_run call_of c.args.turns (unix_of c.args.flat.now) (schedule_of c.args.schedule.now) bytes) bytes c.args.output.now (c.args.turns - c.turns.made - c.in-Ok.advance.turns) (c.args.turns - c.turns.made - c.in-Ok.advance.turns) (c.turns.made + c.in-Ok.advance.turns) (c.turns.made + c.from-made.result) c.in-Ok.advance.idle true
    (unix_of c.go_on.new.flat) (schedule_of c.go_on.new.schedule) c.go_on.new.input c.go_on.new.output refl (ap (λ more. c.turns.made + more) (sym c.from-made.ensures)) c.if-advance.true
    (goes_on-more g.S.Source.left g.K.Sink.grew (unix_run call_of c.args.turns (unix_of c.args.flat.now) (schedule_of c.args.schedule.now) bytes) bytes c.args.output.now g.met.K.Sink.grew_joined (c.args.turns - c.turns.made) (c.args.turns - c.turns.made - c.in-Ok.advance.turns) c.turns.made c.in-Ok.advance.turns
    (unix_of c.turns.flat) (unix_of c.go_on.new.flat) (schedule_of c.turns.schedule) (schedule_of c.go_on.new.schedule) c.in-Ok.advance.idle c.turns.input c.go_on.new.input c.turns.output c.go_on.new.output (c.turns.invariant.so_far bytes told) c.in-Ok.ensures.goes_on))
    (λ input. ap (ended (unix_of c.go_on.new.flat) (schedule_of c.go_on.new.schedule) input) (sym c.idle_stop-stop.ensures))

pub turns-preserved : goal.turns-preserved
turns-preserved g c = record {
  so_far = λ bytes told.
      goes_on-same g.S.Source.left g.K.Sink.grew (unix_run call_of c.args.turns (unix_of c.args.flat.now) (schedule_of c.args.schedule.now) bytes) bytes c.args.output.now (c.args.turns - c.turns.made - c.in-Ok.advance.turns) (c.args.turns - (c.turns.made + c.from-made.result)) (c.turns.made + c.in-Ok.advance.turns) (c.turns.made + c.from-made.result) c.in-Ok.advance.idle false
      (unix_of c.go_on.new.flat) (schedule_of c.go_on.new.schedule) c.go_on.new.input c.go_on.new.output (omega (arith, c.from-made.ensures)) (ap (λ more. c.turns.made + more) (sym c.from-made.ensures)) c.if-advance.false
      (goes_on-more g.S.Source.left g.K.Sink.grew (unix_run call_of c.args.turns (unix_of c.args.flat.now) (schedule_of c.args.schedule.now) bytes) bytes c.args.output.now g.met.K.Sink.grew_joined (c.args.turns - c.turns.made) (c.args.turns - c.turns.made - c.in-Ok.advance.turns) c.turns.made c.in-Ok.advance.turns
      (unix_of c.turns.flat) (unix_of c.go_on.new.flat) (schedule_of c.turns.schedule) (schedule_of c.go_on.new.schedule) c.in-Ok.advance.idle c.turns.input c.go_on.new.input c.turns.output c.go_on.new.output (c.turns.invariant.so_far bytes told) c.in-Ok.ensures.goes_on);
  few = omega (arith, c.turns.invariant.few, c.from-made.ensures, c.in-Ok.ensures.few.1, c.turns-test.true);
  input_same = c.in-Ok.ensures.same.0 ∙ c.turns.invariant.input_same;
  output_same = c.in-Ok.ensures.same.1 ∙ c.turns.invariant.output_same;
  input_counted = omega (arith, c.turns.invariant.input_counted, c.go_on.ensures.input_counted);
  output_counted = omega (arith, c.turns.invariant.output_counted, c.go_on.ensures.output_counted);
}

pub returns-in-Some-stop_at-clause-runs : goal.returns-in-Some-stop_at-clause-runs
returns-in-Some-stop_at-clause-runs g c = λ bytes told.
    goes_on-ends g.S.Source.left g.K.Sink.grew (unix_run call_of c.args.turns (unix_of c.args.flat.now) (schedule_of c.args.schedule.now) bytes) bytes c.args.output.now (c.args.turns - c.turns.made) c.turns.made (unix_of c.turns.flat) (schedule_of c.turns.schedule) false (stop_of c.in-Some-stop_at.stop) c.turns.input c.turns.output
    (c.turns.invariant.so_far bytes told) (λ input. run-stopped (c.args.turns - c.turns.made) (unix_of c.turns.flat) (schedule_of c.turns.schedule) input (stop_of c.in-Some-stop_at.stop) (sym c.in-Some-stop_at.ensures))

pub returns-in-None-stop_at-clause-runs : goal.returns-in-None-stop_at-clause-runs
returns-in-None-stop_at-clause-runs g c = λ bytes told.
    goes_on-ends g.S.Source.left g.K.Sink.grew (unix_run call_of c.args.turns (unix_of c.args.flat.now) (schedule_of c.args.schedule.now) bytes) bytes c.args.output.now 0 c.turns.made (unix_of c.turns.flat) (schedule_of c.turns.schedule) false Going c.turns.input c.turns.output
    (goes_on-same g.S.Source.left g.K.Sink.grew (unix_run call_of c.args.turns (unix_of c.args.flat.now) (schedule_of c.args.schedule.now) bytes) bytes c.args.output.now (c.args.turns - c.turns.made) 0 c.turns.made c.turns.made false false (unix_of c.turns.flat) (schedule_of c.turns.schedule) c.turns.input c.turns.output (omega (arith, c.turns-test.false)) refl refl (c.turns.invariant.so_far bytes told))
    (λ input. run-made (unix_of c.turns.flat) (schedule_of c.turns.schedule) input (sym c.in-None-stop_at.ensures))
