use Rattle.std.proofs.Common.{sym}
use Rattle.unix_model.specs.declared.calls.Turned.TheVariants.{Free, Worked}
use Rattle.unix_model.specs.Turn.{ticked}
use Rattle.flat_state.specs.SlotsView.{slots_of}
use Rattle.flat_state.specs.StateView.{unix_of}
use Rattle.flat_unix.proofs.FreeTurns.{turned-free, turned-running}
use Rattle.flat_unix.proofs.TurnSteps.{quiet-makes}
use Rattle.flat_unix.proofs.turning.step.Goals as goal

pub returns-in-Free-clause-turn : goal.returns-in-Free-clause-turn
returns-in-Free-clause-turn g c = λ bytes told.
    quiet-makes g.S.Source.left (ticked (unix_of c.args.state.now)) Free c.args.input.now g.K.Sink.grew c.args.output.now _ bytes told (g.met.K.Sink.grew_nothing c.args.output.now)
    (turned-free (unix_of c.args.state.now) c.args.slot bytes (sym c.in-Free.ensures))

pub returns-in-Running-clause-turn : goal.returns-in-Running-clause-turn
returns-in-Running-clause-turn g c = λ bytes told.
    quiet-makes g.S.Source.left _ Worked c.args.input.now g.K.Sink.grew c.args.output.now _ bytes told (g.met.K.Sink.grew_nothing c.args.output.now)
    (turned-running (unix_of c.args.state.now) c.args.slot bytes (sym c.in-Running.ensures) (slots_of c.run.new.self) c.run.ensures)
