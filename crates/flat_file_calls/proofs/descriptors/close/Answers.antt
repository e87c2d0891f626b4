use Rattle.std.proofs.Common.{ap, ◌∙◌}
use Rattle.unix_model.specs.Process as model
use Rattle.unix_model.specs.State.{Unix, with_descriptor_closed, with_phase, with_process}
use Rattle.flat_state.specs.ProcessView.{process_of}
use Rattle.flat_state.specs.StateView.{unix_of}
use Rattle.flat_file_calls.proofs.DescriptorLaws.{put-again}
use Rattle.flat_file_calls.proofs.descriptors.close.Goals as goal

pub returns : goal.returns
returns c =
    let old : model.Process = process_of c.args.process in
    let new : model.Process = process_of c.close_descriptor-process.result in
    let unix : Unix = with_process (unix_of c.args.state.now) c.args.slot old in
    let closed : Unix = with_descriptor_closed unix c.args.slot old c.args.number (model.descriptor old c.args.number) in
    record {
      state_is =
          c.reply.ensures.state
          ∙ (put-again (unix_of c.close_descriptor-process.new.state) closed c.args.slot new (model.in_phase new (model.answered 0)) (c.close_descriptor-process.ensures.state c.args.slot c.requires.slot c.requires.free)
          ∙ ap (λ (process : model.Process). with_phase closed c.args.slot process (model.answered 0)) c.close_descriptor-process.ensures.process);
      answer_is = c.reply.ensures.answer;
    }
