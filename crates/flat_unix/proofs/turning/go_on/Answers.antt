use Rattle.flat_unix.proofs.TurnSteps.{if_ok-map, on_err-of, reads-make, takes-none, writes-make}
use Rattle.flat_unix.proofs.turning.go_on.Goals as goal

pub returns-in-Err-clause-lost : goal.returns-in-Err-clause-lost
returns-in-Err-clause-lost g c = λ bytes told. takes-none g.S.Source.left c.args.input.now bytes _ told

pub returns-in-Reads-clause-turn : goal.returns-in-Reads-clause-turn
returns-in-Reads-clause-turn g c =
    if_ok-map _ _ (λ answer reads bytes told. reads-make g.S.Source.left _ answer c.read_turn.new.input g.K.Sink.grew c.args.output.now _ (g.met.K.Sink.grew_nothing c.args.output.now) (reads bytes told))
    c.read_turn.result c.read_turn.ensures.turn

pub returns-in-Writes-clause-turn : goal.returns-in-Writes-clause-turn
returns-in-Writes-clause-turn g c =
    if_ok-map _ _ (λ answer writes bytes told. writes-make g.S.Source.left _ answer c.args.input.now g.K.Sink.grew c.args.output.now c.write_turn.new.output _ bytes told writes)
    c.write_turn.result c.write_turn.ensures.turn

pub returns-in-Writes-clause-lost : goal.returns-in-Writes-clause-lost
returns-in-Writes-clause-lost g c = on_err-of _ (λ bytes told. takes-none g.S.Source.left c.args.input.now bytes _ told) c.write_turn.result

pub returns-in-Err-quiet_step-clause-lost : goal.returns-in-Err-quiet_step-clause-lost
returns-in-Err-quiet_step-clause-lost g c = λ bytes told. takes-none g.S.Source.left c.args.input.now bytes _ told
