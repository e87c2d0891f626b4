use Rattle.std.proofs.Common.{◌≡◌, ℕ, List, [], ap, sym, subst, ◌∙◌}
use Rattle.unix_model.specs.Process as model
use Rattle.unix_model.specs.Process.{Process, in_phase}
use Rattle.unix_model.specs.State.{with_process}
use Rattle.unix_model.specs.Turn.{returned}
use Rattle.flat_state.specs.declared.process.Phase.{Phase}
use Rattle.flat_state.specs.ProcessView.{phase_of, process_of}
use Rattle.flat_state.specs.StateView.{unix_of}
use Rattle.flat_unix.proofs.TurnSteps.{returns-answer}
use Rattle.flat_unix.proofs.steps.give_back.Goals as goal

pub returns-in-Done : goal.returns-in-Done
returns-in-Done c = λ value address bytes is.
    c.put.ensures
    ∙ ap (λ (process : Process). with_process (unix_of c.args.state.now) c.args.slot process)
    (returns-answer (process_of c.args.process) (process_of c.give_back.result) (phase_of c.replace.new.dest) c.in-Done.value 0 [] value address bytes c.give_back.ensures
    (subst (λ (phase : Phase). phase_of phase ≡ model.Done value address bytes) (sym c.in-Done.ensures.value) is))

pub returns-in-Gives : goal.returns-in-Gives
returns-in-Gives c = λ value address bytes is.
    c.put-in-Gives.ensures
    ∙ ap (λ (process : Process). with_process (unix_of c.args.state.now) c.args.slot process)
    (returns-answer (process_of c.args.process) (process_of c.give_back_with-process.result) (phase_of c.replace.new.dest) c.in-Gives.answer.value c.in-Gives.answer.address c.in-Gives.answer.bytes.items value address bytes
    (subst (λ (given : List ℕ). process_of c.give_back_with-process.result ≡ returned (in_phase (process_of c.args.process) (phase_of c.replace.new.dest)) c.in-Gives.answer.value c.in-Gives.answer.address given) c.deref.ensures.value c.give_back_with-process.ensures)
    (subst (λ (phase : Phase). phase_of phase ≡ model.Done value address bytes) (sym c.in-Gives.ensures.value) is))
