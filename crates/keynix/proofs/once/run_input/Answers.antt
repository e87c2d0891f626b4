use Rattle.keynix.specs.Schedules.{schedule_of}
use Rattle.command_line.specs.WordsView.{setup_view}
use Rattle.keynix.proofs.BootSteps.{unbooted-ends}
use Rattle.keynix.proofs.once.run_input.Goals as goal

pub returns-in-Err-clause-ends : goal.returns-in-Err-clause-ends
returns-in-Err-clause-ends g c = λ bytes told.
    unbooted-ends (setup_view c.args.setup) (schedule_of c.args.schedule) g.S.Source.left g.K.Sink.grew c.boot.new.input c.args.output.now bytes (g.S.Source.left c.boot.new.input) c.in-Err.ending (c.in-Err.ensures.boots bytes told)
