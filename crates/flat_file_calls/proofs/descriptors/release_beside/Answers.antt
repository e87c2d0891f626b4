use Rattle.std.proofs.Common.{ap, sym, ◌∙◌}
use Rattle.unix_model.specs.State.{Unix, with_process}
use Rattle.flat_state.specs.ProcessView.{process_of}
use Rattle.flat_state.specs.StateView.{unix_of}
use Rattle.flat_file_calls.proofs.DescriptorLaws.{released-held, released-beside}
use Rattle.flat_file_calls.proofs.descriptors.release_beside.Goals as goal

pub returns-then-not-has_descriptor : goal.returns-then-not-has_descriptor
returns-then-not-has_descriptor c = λ slot inside free.
    ap (λ (unix : Unix). with_process unix slot (process_of c.args.process.now)) c.release.ensures
    ∙ released-beside (unix_of c.args.state.now) slot 0 c.args.description (process_of c.args.process.now) free (sym c.has_descriptor.ensures ∙ c.if-not-has_descriptor.true)

pub returns-else-not-has_descriptor : goal.returns-else-not-has_descriptor
returns-else-not-has_descriptor c = λ slot inside free.
    sym (released-held (unix_of c.args.state.now) slot 0 c.args.description (process_of c.args.process.now) inside (sym c.has_descriptor.ensures ∙ c.if-not-has_descriptor.false))
