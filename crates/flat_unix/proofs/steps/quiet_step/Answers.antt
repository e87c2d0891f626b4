use Rattle.std.proofs.Common.{◌≡◌, ◌≢◌, ℕ, List, [], Result, Ok, Err, IfOk, sym, ap, subst, ◌∙◌}
use Rattle.unix_model.specs.declared.calls.Turned.{Turned}
use Rattle.unix_model.specs.Calls.{call_of}
use Rattle.unix_model.specs.Process as model
use Rattle.unix_model.specs.Process.{Process, SentCall}
use Rattle.unix_model.specs.State.{Unix, with_process}
use Rattle.unix_model.specs.Turn.{call_line, turned, ticked}
use Rattle.flat_state.specs.ProcessView.{phase_of, process_of, sent_call_of}
use Rattle.flat_state.specs.Settles.{Settles}
use Rattle.flat_state.specs.StateView.{unix_of}
use Rattle.flat_unix.specs.Families.{family_of}
use Rattle.flat_unix.specs.declared.families.Family.TheVariants.{Streams}
use Rattle.flat_unix.specs.Turns.{quiet_turn}
use Rattle.flat_unix.proofs.TurnSteps.{answered-so, turned-asked, turned-call, turned-done, turned-exiting}
use Rattle.flat_unix.proofs.steps.quiet_step.Goals as goal

-- what a call that touches no stream promises, as the turn that it is
called-quietly : {E : Type 0} (rest : Unix) (slot : ℕ) (process : Process) (sent : SentCall) → process.phase ≡ model.Sent sent → family_of sent.call ≢ Streams
    → (state : Unix) (result : Result Turned E)
    → IfOk result (λ answer. Settles (with_process rest slot process) slot process (call_line (with_process rest slot process) slot process [] sent sent.call) state answer)
    → IfOk result (λ answer. (bytes : List ℕ) → turned call_of (with_process rest slot process) slot bytes ≡ quiet_turn (ticked state) answer bytes)
called-quietly rest slot process sent is quiet state (Ok answer) made = λ bytes. turned-call rest slot process bytes sent is quiet state answer made
called-quietly rest slot process sent is quiet state (Err error) made = tt

pub call-requires-clause-quiet : goal.call-requires-clause-quiet
call-requires-clause-quiet c =
    subst (λ (sent : SentCall). family_of sent.call ≢ Streams) (sym c.in_ok-sent-in-Sent.ensures.same)
    (c.requires.quiet (sent_call_of c.in-Sent.sent) (ap phase_of c.in-Sent.is))

pub returns-in_ok-ask-in-Asked : goal.returns-in_ok-ask-in-Asked
returns-in_ok-ask-in-Asked c = λ bytes.
    turned-asked (unix_of c.args.state.now) c.args.slot (process_of c.args.process) bytes (ap phase_of c.in-Asked.is) (unix_of c.ask.new.state) c.in_ok-ask-in-Asked.ensures

pub returns-in_ok-sent-in-Sent : goal.returns-in_ok-sent-in-Sent
returns-in_ok-sent-in-Sent c =
    let sent : SentCall = sent_call_of c.in_ok-sent-in-Sent.sent in
    let is : phase_of c.args.process.phase ≡ model.Sent sent = ap phase_of c.in-Sent.is ∙ ap model.Sent (sym c.in_ok-sent-in-Sent.ensures.same) in
    called-quietly (unix_of c.args.state.now) c.args.slot (process_of c.args.process) sent is (c.requires.quiet sent is) (unix_of c.call.new.state) c.call.result c.call.ensures

pub returns-in_ok-exit_step-in-Exiting : goal.returns-in_ok-exit_step-in-Exiting
returns-in_ok-exit_step-in-Exiting c = λ bytes.
    turned-exiting (unix_of c.args.state.now) c.args.slot (process_of c.args.process) bytes _ (ap phase_of c.in-Exiting.is) (unix_of c.exit_step.new.state) c.in_ok-exit_step-in-Exiting.ensures

pub returns-in-Done : goal.returns-in-Done
returns-in-Done c = λ bytes.
    let done = answered-so c.args.process.phase c.in-Done.is in
    turned-done (unix_of c.args.state.now) c.args.slot (process_of c.args.process) bytes done.0 done.1 done.2 done.3 (unix_of c.give_back.new.state) (c.give_back.ensures done.0 done.1 done.2 done.3)
