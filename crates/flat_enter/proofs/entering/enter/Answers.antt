use Rattle.std.proofs.Common.{◌∙◌, sym, subst, Err}
use Rattle.unix_model.specs.Enter.{call_enters}
use Rattle.unix_model.specs.State.{with_process}
use Rattle.flat_state.specs.ProcessView.{process_of}
use Rattle.flat_state.specs.StateView.{unix_of}
use Rattle.flat_enter.specs.declared.fault.EnterFault.{EnterFault}
use Rattle.flat_enter.specs.Enters.{Enters}
use Rattle.flat_enter.proofs.EnterLines.{enter-refused}
use Rattle.flat_enter.proofs.entering.enter.Goals as goal

pub returns-in-Err-Refused : goal.returns-in-Err-Refused
returns-in-Err-Refused c = λ slot inside free.
    let line =
    subst (λ (fault : EnterFault). Enters (process_of c.args.process) (call_enters (with_process (unix_of c.args.state.now) slot (process_of c.args.process)) slot (process_of c.args.process) c.argument-a0.result c.argument-a1.result c.argument-a2.result c.in-Some.call) (Err fault))
    c.in-Err-Refused.field-0-is (c.in-Err-Refused.ensures slot) in
    c.refused-in-Err-Refused.ensures
    ∙ sym (enter-refused (with_process (unix_of c.args.state.now) slot (process_of c.args.process)) slot (process_of c.args.process) c.in-Some.call c.argument.result c.argument-a0.result c.argument-a1.result c.argument-a2.result c.in-Err-Refused.errno
    c.argument.ensures (sym c.of.ensures ∙ c.in-Some.is) c.argument-a0.ensures c.argument-a1.ensures c.argument-a2.ensures line)
