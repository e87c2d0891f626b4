use Rattle.std.proofs.Common.{◌≡◌, ◌+◌, Err, None, true, false, arith, ap, refl, sym, ◌∙◌}
use Rattle.unix_model.specs.declared.calls.Errno.TheVariants.{Enospc}
use Rattle.unix_model.specs.Files.{with_name}
use Rattle.unix_model.specs.NameCalls.{moved, with_link}
use Rattle.unix_model.specs.Paths.{Spot}
use Rattle.unix_model.specs.Process as model
use Rattle.unix_model.specs.Room.{has_room, promised}
use Rattle.unix_model.specs.State.{Unix, with_files, with_phase, with_process}
use Rattle.flat_files.specs.FilesView.{files_of}
use Rattle.flat_files.specs.SpotView.{spot_of}
use Rattle.flat_state.specs.ProcessView.{process_of}
use Rattle.flat_state.specs.StateView.{unix_of}
use Rattle.flat_file_calls.proofs.Settling.{settles-by, settles-to, files-changed}
use Rattle.flat_name_calls.specs.Renaming.{rename_end}
use Rattle.flat_name_calls.proofs.MakingLaws.{promised-link}
use Rattle.flat_name_calls.proofs.RenamingLaws.{rename-crowded, rename-done}
use Rattle.flat_name_calls.proofs.renaming.rename_anew.Goals as goal

pub returns-then-not-fits : goal.returns-then-not-fits
returns-then-not-fits c =
    let process : model.Process = process_of c.args.process in
    let unix : Unix = with_process (unix_of c.args.state.now) c.args.slot process in
    let from : Spot = spot_of c.args.from in
    let to : Spot = spot_of c.args.to in
    let promises : promised (with_link unix to c.args.inode) + c.inode_pages.result ≡ promised unix + c.pages_with_name-more.result =
    omega (arith, promised-link unix to c.args.inode c.pages_with_name-more.result c.args.to.directory_below c.pages_with_name-more.ensures.pages, c.inode_pages.ensures.pages) in
    let crowded : has_room (with_link unix to c.args.inode) ≡ false = sym (c.fits.ensures c.args.slot (with_link unix to c.args.inode) c.requires.slot c.requires.free refl promises) ∙ c.if-not-fits.true in
    settles-by unix c.args.slot process (unix_of c.refuse-then-not-fits.new.self) c.refuse-then-not-fits.result
    (rename_end unix c.args.slot process from to c.args.inode None) (Err Enospc)
    (rename-crowded unix c.args.slot process from to c.args.inode (sym c.is_full.ensures ∙ c.if-is_full.false) crowded)
    c.refuse-then-not-fits.ensures

pub returns : goal.returns
returns c =
    let old : Unix = unix_of c.args.state.now in
    let process : model.Process = process_of c.args.process in
    let unix : Unix = with_process old c.args.slot process in
    let from : Spot = spot_of c.args.from in
    let to : Spot = spot_of c.args.to in
    let promises : promised (with_link unix to c.args.inode) + c.inode_pages.result ≡ promised unix + c.pages_with_name-more.result =
    omega (arith, promised-link unix to c.args.inode c.pages_with_name-more.result c.args.to.directory_below c.pages_with_name-more.ensures.pages, c.inode_pages.ensures.pages) in
    let room : has_room (with_link unix to c.args.inode) ≡ true = sym (c.fits.ensures c.args.slot (with_link unix to c.args.inode) c.requires.slot c.requires.free refl promises) ∙ c.if-not-fits.false in
    settles-to unix c.args.slot process (unix_of c.reply.new.self) c.reply.result
    (rename_end unix c.args.slot process from to c.args.inode None) (with_phase (with_files unix (moved (with_link unix to c.args.inode).files from to c.args.inode)) c.args.slot process (model.answered 0))
    (rename-done unix c.args.slot process from to c.args.inode (sym c.is_full.ensures ∙ c.if-is_full.false) room)
    (c.reply.ensures.state
    ∙ files-changed old (with_files old (files_of c.move_anew.new.files)) (moved (with_name old.files to.directory to.name c.args.inode) from to c.args.inode) c.args.slot process (model.in_phase process (model.answered 0)) (ap (with_files old) c.in_ok-move_anew.ensures))
    c.reply.ensures.answer
