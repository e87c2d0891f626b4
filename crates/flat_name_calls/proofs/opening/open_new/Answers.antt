use Rattle.std.proofs.Common.{◌≡◌, ℕ, List, [], None, ap, refl, sym, ◌∙◌}
use Rattle.unix_model.specs.Files.{Description, File, Files, Inode, with_description, with_inode, with_name}
use Rattle.unix_model.specs.NameCalls.{opening, with_made, with_opened}
use Rattle.unix_model.specs.Paths.{Spot}
use Rattle.unix_model.specs.Process as model
use Rattle.unix_model.specs.State.{Unix, with_files, with_phase, with_process}
use Rattle.flat_files.specs.FilesView.{files_of}
use Rattle.flat_files.specs.SpotView.{spot_of}
use Rattle.flat_state.specs.ProcessView.{process_of}
use Rattle.flat_state.specs.StateView.{unix_of}
use Rattle.flat_file_calls.proofs.Settling.{settles-to, files-changed}
use Rattle.flat_name_calls.specs.Opening.{open_spot}
use Rattle.flat_name_calls.proofs.OpeningLaws.{open-new-done}
use Rattle.flat_name_calls.proofs.opening.open_new.Goals as goal

pub returns : goal.returns
returns c =
    let old : Unix = unix_of c.args.state.now in
    let process : model.Process = process_of c.args.process in
    let unix : Unix = with_process old c.args.slot process in
    let spot : Spot = spot_of c.args.spot in
    let lowest : ℕ = c.args.opening.descriptor in
    let number : ℕ = c.args.opening.number in
    let inode : ℕ = c.in-Ok.inode in
    let new : Inode = File [] in
    let description : Description = opening c.args.opening.flags inode in
    let next : model.Process = model.with_descriptor process lowest number in
    let made_files : files_of c.make.new.self ≡ (with_made old spot inode new).files =
    c.in_ok-make.ensures
    ∙ ap (λ (bytes : List ℕ). with_name (with_inode old.files inode (File bytes)) spot.directory spot.name inode) c.new-bytes.ensures.items in
    settles-to unix c.args.slot process (unix_of c.finish.new.state) c.finish.result
    (open_spot unix c.args.slot process c.args.path.now c.args.opening.flags lowest number spot None)
    (with_phase (with_opened (with_made unix spot inode new) number description) c.args.slot next (model.answered lowest))
    (open-new-done unix c.args.slot process c.args.path.now c.args.opening.flags lowest number spot inode
    (sym c.creates.ensures ∙ c.if-not-creates.false) (sym c.is_slashed.ensures ∙ c.if-is_slashed.false)
    (sym (c.in-Ok.ensures.made c.args.slot new c.requires.slot c.requires.free refl refl)))
    (c.finish.ensures.state
    ∙ files-changed old (with_opened (with_files old (files_of c.make.new.self)) number description) (with_description (with_made old spot inode new).files number description) c.args.slot process (model.in_phase next (model.answered lowest))
    (ap (λ (files : Files). with_files old (with_description files number description)) made_files))
    c.finish.ensures.answer
