use Rattle.std.proofs.Common.{sym, ap, subst, ◌∙◌}
use Rattle.unix_model.specs.TurnRecord.{Turn}
use Rattle.flat_file_calls.specs.Console.{TakesFront}
use Rattle.flat_state.specs.ProcessView.{process_of, sent_call_of}
use Rattle.flat_state.specs.StateView.{unix_of}
use Rattle.flat_unix.proofs.TurnSteps.{ticks-reads, turned-read}
use Rattle.flat_unix.proofs.turning.read_turn.Goals as goal

pub returns-in-Ok-clause-turn : goal.returns-in-Ok-clause-turn
returns-in-Ok-clause-turn g c = λ bytes told.
    ticks-reads g.S.Source.left (unix_of c.read.new.state) c.in-Ok.answer c.read.new.input _ _
    (turned-read (unix_of c.args.state.now) c.args.slot (process_of c.args.process) bytes (sent_call_of c.args.sent.now) c.requires.phase c.requires.call)
    (c.in-Ok.ensures.turn bytes told)

pub returns-in-Ok-clause-takes_nothing : goal.returns-in-Ok-clause-takes_nothing
returns-in-Ok-clause-takes_nothing g c = λ none. c.read.ensures.quiet (λ bytes.
    sym (ap (λ (turn : Turn). turn.taken) (turned-read (unix_of c.args.state.now) c.args.slot (process_of c.args.process) bytes (sent_call_of c.args.sent.now) c.requires.phase c.requires.call)) ∙ none bytes)

pub returns-in-Err-Failed-clause-takes_nothing : goal.returns-in-Err-Failed-clause-takes_nothing
returns-in-Err-Failed-clause-takes_nothing g c = λ none. c.read.ensures.quiet (λ bytes.
    sym (ap (λ (turn : Turn). turn.taken) (turned-read (unix_of c.args.state.now) c.args.slot (process_of c.args.process) bytes (sent_call_of c.args.sent.now) c.requires.phase c.requires.call)) ∙ none bytes)

pub returns-in-Err-Failed-clause-lost : goal.returns-in-Err-Failed-clause-lost
returns-in-Err-Failed-clause-lost g c = λ bytes told.
    subst (λ (turn : Turn). TakesFront bytes turn.taken (g.S.Source.left c.read.new.input)) (sym (turned-read (unix_of c.args.state.now) c.args.slot (process_of c.args.process) bytes (sent_call_of c.args.sent.now) c.requires.phase c.requires.call))
    (c.in-Err-Failed.ensures.part bytes told)

pub returns-in-Err-NoMemory-clause-takes_nothing : goal.returns-in-Err-NoMemory-clause-takes_nothing
returns-in-Err-NoMemory-clause-takes_nothing g c = λ none. c.read.ensures.quiet (λ bytes.
    sym (ap (λ (turn : Turn). turn.taken) (turned-read (unix_of c.args.state.now) c.args.slot (process_of c.args.process) bytes (sent_call_of c.args.sent.now) c.requires.phase c.requires.call)) ∙ none bytes)

pub returns-in-Err-NoMemory-clause-lost : goal.returns-in-Err-NoMemory-clause-lost
returns-in-Err-NoMemory-clause-lost g c = λ bytes told.
    subst (λ (turn : Turn). TakesFront bytes turn.taken (g.S.Source.left c.read.new.input)) (sym (turned-read (unix_of c.args.state.now) c.args.slot (process_of c.args.process) bytes (sent_call_of c.args.sent.now) c.requires.phase c.requires.call))
    (c.in-Err-NoMemory.ensures.part bytes told)
