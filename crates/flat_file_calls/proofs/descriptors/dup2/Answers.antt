use Rattle.std.proofs.Common.{◌≡◌, false, Some, arith, ap, sym, subst, ◌∙◌}
use Rattle.std.proofs.lemmas.Bool.Decides.{nat_tests}
use Rattle.std.specs.Prelude.{◌==◌}
use Rattle.unix_model.specs.Effect.{Line}
use Rattle.unix_model.specs.Process as model
use Rattle.unix_model.specs.State.{Unix, opened, with_descriptor_closed, with_phase, with_process}
use Rattle.flat_files.specs.OpenedView.{opened_of}
use Rattle.flat_state.specs.ProcessView.{process_of}
use Rattle.flat_state.specs.Settles.{Settles}
use Rattle.flat_state.specs.StateView.{unix_of}
use Rattle.flat_file_calls.proofs.DescriptorLaws.{dup2-closes, opened-over, put-again}
use Rattle.flat_file_calls.proofs.descriptors.dup2.Goals as goal

pub returns : goal.returns
returns c =
    let old : model.Process = process_of c.args.process in
    let new : model.Process = process_of c.with_descriptor-process.result in
    let taken : model.Process = process_of c.close_descriptor-process.result in
    let unix : Unix = with_process (unix_of c.args.state.now) c.args.slot old in
    let closed : Unix = with_descriptor_closed unix c.args.slot old c.args.to (model.descriptor old c.args.to) in
    let there : opened unix old c.args.number ≡ Some (opened_of c.in-Some.file) = sym c.in-Some.ensures.opened in
    let apart : (c.args.number == c.args.to) ≡ false = grind (arith, nat_tests) in
    subst (λ (line : Line). Settles unix c.args.slot old line (unix_of c.reply-2.new.self) c.reply-2.result) (sym (dup2-closes unix c.args.slot c.args.number c.args.to old (opened_of c.in-Some.file) there apart))
    (record {
      state_is =
          c.reply-2.ensures.state
          ∙ (put-again (unix_of c.close_descriptor-process.new.state) closed c.args.slot taken (model.in_phase new (model.answered c.args.to)) (c.close_descriptor-process.ensures.state c.args.slot c.requires.slot c.requires.free)
          ∙ ap (λ (process : model.Process). with_phase closed c.args.slot process (model.answered c.args.to)) (opened-over old taken new c.args.to c.in-Some.file.number c.close_descriptor-process.ensures.process c.with_descriptor-process.ensures));
      answer_is = c.reply-2.ensures.answer;
    })
