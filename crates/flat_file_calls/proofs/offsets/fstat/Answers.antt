use Rattle.std.proofs.Common.{ℕ, refl, sym, ◌∙◌, List}
use Rattle.unix_model.specs.FileCalls.{fstat_line}
use Rattle.unix_model.specs.Process as model
use Rattle.unix_model.specs.State.{Unix, with_phase, with_process}
use Rattle.flat_files.specs.OpenedView.{opened_of}
use Rattle.flat_state.specs.ProcessView.{process_of}
use Rattle.flat_state.specs.StateView.{unix_of}
use Rattle.flat_file_calls.proofs.FileLines.{fstat-done}
use Rattle.flat_file_calls.proofs.Settling.{settles-to, files-changed}
use Rattle.flat_file_calls.proofs.offsets.fstat.Goals as goal

pub returns : goal.returns
returns c =
    let old : Unix = unix_of c.args.state.now in
    let process : model.Process = process_of c.args.process in
    let unix : Unix = with_process old c.args.slot process in
    let bytes : List ℕ = c.in_ok-bytes.bytes.items in
    let answer : model.Phase = model.answered_with 0 c.args.address bytes in
    settles-to unix c.args.slot process (unix_of c.reply_with.new.self) c.reply_with.result
    (fstat_line unix c.args.slot process c.args.number c.args.address) (with_phase unix c.args.slot process answer)
    (fstat-done unix c.args.slot c.args.number process (opened_of c.in-Some.file) (sym c.in-Some.ensures.opened) c.args.address bytes c.in_ok-bytes.ensures.bytes)
    (c.reply_with.ensures.state ∙ files-changed old old old.files c.args.slot process (model.in_phase process answer) refl)
    c.reply_with.ensures.answer
