use Rattle.std.proofs.Common.{[], sym}
use Rattle.flat_state.specs.ProcessView.{process_of, sent_call_of}
use Rattle.flat_state.specs.StateView.{unix_of}
use Rattle.flat_unix.proofs.QuietLines.{never-waits}
use Rattle.flat_unix.proofs.waiting.waits.Goals as goal

pub returns-in_default : goal.returns-in_default
returns-in_default c = λ slot.
    sym (never-waits (unix_of c.args.state.now) slot (process_of c.args.process.now) [] (sent_call_of c.args.sent.now) c.args.sent.now.call c.in_default.not-Wait c.in_default.not-Waitpid c.in_default.not-Read c.in_default.not-Write)
