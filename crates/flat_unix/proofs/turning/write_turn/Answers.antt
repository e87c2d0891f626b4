use Rattle.std.proofs.Common.{[], sym, ap, subst, ◌∙◌}
use Rattle.kn_io.specs.Sink.{GrewByPrefix}
use Rattle.unix_model.specs.TurnRecord.{Turn}
use Rattle.flat_state.specs.ProcessView.{process_of, sent_call_of}
use Rattle.flat_state.specs.StateView.{unix_of}
use Rattle.flat_unix.proofs.TurnSteps.{ticks-writes, turned-write}
use Rattle.flat_unix.proofs.turning.write_turn.Goals as goal

pub returns-in-Ok-clause-turn : goal.returns-in-Ok-clause-turn
returns-in-Ok-clause-turn g c =
    ticks-writes g.K.Sink.grew (unix_of c.write.new.state) c.in-Ok.answer c.args.output.now c.write.new.output _ _
    (λ bytes. turned-write (unix_of c.args.state.now) c.args.slot (process_of c.args.process) bytes (sent_call_of c.args.sent.now) c.deref.result.now c.requires.phase c.requires.call c.deref.ensures.value)
    c.in-Ok.ensures.turn

pub returns-in-Ok-clause-puts_nothing : goal.returns-in-Ok-clause-puts_nothing
returns-in-Ok-clause-puts_nothing g c = λ none. c.write.ensures.quiet
    (sym (ap (λ (turn : Turn). turn.put) (turned-write (unix_of c.args.state.now) c.args.slot (process_of c.args.process) [] (sent_call_of c.args.sent.now) c.deref.result.now c.requires.phase c.requires.call c.deref.ensures.value)) ∙ none [])

pub returns-in-Err-Failed-clause-puts_nothing : goal.returns-in-Err-Failed-clause-puts_nothing
returns-in-Err-Failed-clause-puts_nothing g c = λ none. c.write.ensures.quiet
    (sym (ap (λ (turn : Turn). turn.put) (turned-write (unix_of c.args.state.now) c.args.slot (process_of c.args.process) [] (sent_call_of c.args.sent.now) c.deref.result.now c.requires.phase c.requires.call c.deref.ensures.value)) ∙ none [])

pub returns-in-Err-Failed-clause-part : goal.returns-in-Err-Failed-clause-part
returns-in-Err-Failed-clause-part g c = λ bytes.
    subst (λ (turn : Turn). GrewByPrefix g.K.Sink.grew c.args.output.now turn.put c.write.new.output) (sym (turned-write (unix_of c.args.state.now) c.args.slot (process_of c.args.process) bytes (sent_call_of c.args.sent.now) c.deref.result.now c.requires.phase c.requires.call c.deref.ensures.value))
    (c.in-Err-Failed.ensures.part bytes)

pub returns-in-Err-NoMemory-clause-puts_nothing : goal.returns-in-Err-NoMemory-clause-puts_nothing
returns-in-Err-NoMemory-clause-puts_nothing g c = λ none. c.write.ensures.quiet
    (sym (ap (λ (turn : Turn). turn.put) (turned-write (unix_of c.args.state.now) c.args.slot (process_of c.args.process) [] (sent_call_of c.args.sent.now) c.deref.result.now c.requires.phase c.requires.call c.deref.ensures.value)) ∙ none [])

pub returns-in-Err-NoMemory-clause-part : goal.returns-in-Err-NoMemory-clause-part
returns-in-Err-NoMemory-clause-part g c = λ bytes.
    subst (λ (turn : Turn). GrewByPrefix g.K.Sink.grew c.args.output.now turn.put c.write.new.output) (sym (turned-write (unix_of c.args.state.now) c.args.slot (process_of c.args.process) bytes (sent_call_of c.args.sent.now) c.deref.result.now c.requires.phase c.requires.call c.deref.ensures.value))
    (c.in-Err-NoMemory.ensures.part bytes)
