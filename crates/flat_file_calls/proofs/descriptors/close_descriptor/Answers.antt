use Rattle.std.proofs.Common.{◌≡◌, Some, None, ◌∙◌}
use Rattle.unix_model.specs.Process.{descriptor}
use Rattle.flat_state.specs.ProcessView.{process_of}
use Rattle.flat_state.specs.StateView.{unix_of}
use Rattle.flat_file_calls.proofs.DescriptorLaws.{closed-some, closed-none}
use Rattle.flat_file_calls.proofs.descriptors.close_descriptor.Goals as goal

pub returns-in-Some-clause-state : goal.returns-in-Some-clause-state
returns-in-Some-clause-state c = λ slot inside free.
    let there : descriptor (process_of c.args.process) c.args.number ≡ Some c.in-Some.description = cc in
    c.release_beside.ensures slot inside free
    ∙ closed-some (unix_of c.args.state.now) slot c.args.number c.in-Some.description (process_of c.args.process) (process_of c.without_descriptor-process.result)
    c.without_descriptor-process.ensures there

pub returns-in-None-clause-state : goal.returns-in-None-clause-state
returns-in-None-clause-state c = λ slot inside free.
    let there : descriptor (process_of c.args.process) c.args.number ≡ None = cc in
    closed-none (unix_of c.args.state.now) slot c.args.number 0 (process_of c.args.process) (process_of c.without_descriptor-process.result) there
