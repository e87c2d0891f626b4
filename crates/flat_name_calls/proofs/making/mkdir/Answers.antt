use Rattle.std.proofs.Common.{◌≡◌, ℕ, List, [], Option, Err, false, refl, ap, sym, ◌∙◌}
use Rattle.std.specs.Prelude.{is_some, map}
use Rattle.unix_model.specs.Files.{Directory, Inode, with_inode, with_name}
use Rattle.unix_model.specs.NameCalls.{mkdir_line, with_made}
use Rattle.unix_model.specs.Paths.{Spot}
use Rattle.unix_model.specs.Process as model
use Rattle.unix_model.specs.State.{Unix, with_files, with_phase, with_process}
use Rattle.flat_files.specs.declared.entry.Entry.{Entry}
use Rattle.flat_files.specs.EntryView.{place_of}
use Rattle.flat_files.specs.FilesView.{files_of}
use Rattle.flat_files.specs.SpotView.{spot_of}
use Rattle.flat_state.specs.ProcessView.{process_of}
use Rattle.flat_state.specs.StateView.{unix_of}
use Rattle.flat_file_calls.proofs.Settling.{settles-by, settles-to, files-changed}
use Rattle.flat_name_calls.proofs.MakingLaws.{mkdir-refused, mkdir-done}
use Rattle.flat_name_calls.proofs.making.mkdir.Goals as goal

pub returns-in-Err-made : goal.returns-in-Err-made
returns-in-Err-made c =
    let process : model.Process = process_of c.args.process in
    let unix : Unix = with_process (unix_of c.args.state.now) c.args.slot process in
    let spot : Spot = spot_of c.in-Ok.spot in
    let absent : is_some spot.inode ≡ false = cc (c.is_some.ensures, c.if-is_some.false) in
    settles-by unix c.args.slot process (unix_of c.refuse-in-Err-made.new.self) c.refuse-in-Err-made.result
    (mkdir_line unix c.args.slot process c.args.path.now) (Err c.in-Err-made.errno)
    (mkdir-refused unix c.args.slot process c.args.path.now spot c.in-Err-made.errno (sym c.in-Ok.ensures) absent
    (sym (c.in-Err-made.ensures.made c.args.slot (Directory spot.directory []) c.requires.slot c.requires.free refl refl)))
    c.refuse-in-Err-made.ensures

pub returns : goal.returns
returns c =
    let old : Unix = unix_of c.args.state.now in
    let process : model.Process = process_of c.args.process in
    let unix : Unix = with_process old c.args.slot process in
    let spot : Spot = spot_of c.in-Ok.spot in
    let number : ℕ = c.in-Ok-made.inode in
    let new : Inode = Directory spot.directory [] in
    let absent : is_some spot.inode ≡ false = cc (c.is_some.ensures, c.if-is_some.false) in
    let changed : files_of c.make.new.self ≡ (with_made old spot number new).files =
    c.in_ok-make.ensures
    ∙ ap (λ (places : List (Option Entry)). with_name (with_inode old.files number (Directory spot.directory (map place_of places))) spot.directory spot.name number) c.new.ensures.items in
    settles-to unix c.args.slot process (unix_of c.reply.new.self) c.reply.result
    (mkdir_line unix c.args.slot process c.args.path.now) (with_phase (with_made unix spot number new) c.args.slot process (model.answered 0))
    (mkdir-done unix c.args.slot process c.args.path.now spot number (sym c.in-Ok.ensures) absent
    (sym (c.in-Ok-made.ensures.made c.args.slot new c.requires.slot c.requires.free refl refl)))
    (c.reply.ensures.state
    ∙ files-changed old (with_files old (files_of c.make.new.self)) (with_made old spot number new).files c.args.slot process (model.in_phase process (model.answered 0)) (ap (with_files old) changed))
    c.reply.ensures.answer
