use Rattle.std.proofs.Common.{arith}
use Rattle.flat_unix.specs.FlatView.{unix_of}
use Rattle.keynix.specs.Schedules.{schedule_of}
use Rattle.keynix.proofs.RunSteps.{row-goes_on, turn-lost, turn-part}
use Rattle.keynix.proofs.run.go_on.Goals as goal

pub returns-in-Err-clause-lost : goal.returns-in-Err-clause-lost
returns-in-Err-clause-lost g c = λ bytes told.
    turn-lost g.S.Source.left g.K.Sink.grew c.args.most (unix_of c.args.flat.now) (schedule_of c.args.schedule.now) bytes (g.S.Source.left c.make_row.new.input)
    c.requires.some c.requires.going c.requires.given (c.in-Err.ensures.lost bytes told)

pub returns-in-Err-clause-part : goal.returns-in-Err-clause-part
returns-in-Err-clause-part g c = λ bytes told.
    turn-part g.S.Source.left g.K.Sink.grew g.met.K.Sink.part_longer c.args.most (unix_of c.args.flat.now) (schedule_of c.args.schedule.now) bytes c.args.output.now c.make_row.new.output
    c.requires.some c.requires.going c.requires.given (c.in-Err.ensures.part bytes told)

pub returns-clause-goes_on : goal.returns-clause-goes_on
returns-clause-goes_on g c = λ bytes told.
    row-goes_on g.S.Source.left g.K.Sink.grew g.met.K.Sink.grew_nothing c.args.most c.in-Ok.made (unix_of c.args.flat.now) (unix_of c.make_row.new.flat) (schedule_of c.args.schedule.now) (schedule_of c.pass.new.self) bytes c.ends_idle-idle.result c.make_row.new.input c.args.output.now c.make_row.new.output
    c.in-Ok.ensures.few.0 c.in-Ok.ensures.few.1 c.requires.going c.requires.given
    (c.in-Ok.ensures.made bytes told) c.ends_idle-idle.ensures c.pass.ensures
