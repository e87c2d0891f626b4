use Rattle.std.proofs.Common.{◌≡◌, ◌+◌, ℕ, List, Err, true, false, arith, refl, ap, sym, ◌∙◌}
use Rattle.std.specs.Prelude.{is_some}
use Rattle.unix_model.specs.declared.calls.Errno.TheVariants.{Enospc}
use Rattle.unix_model.specs.Files.{with_name}
use Rattle.unix_model.specs.NameCalls.{link_line, with_link}
use Rattle.unix_model.specs.Paths.{Spot}
use Rattle.unix_model.specs.Process as model
use Rattle.unix_model.specs.Room.{has_room, promised}
use Rattle.unix_model.specs.State.{Unix, with_files, with_phase, with_process}
use Rattle.flat_files.specs.FilesView.{files_of}
use Rattle.flat_files.specs.SpotView.{spot_of}
use Rattle.flat_state.specs.ProcessView.{process_of}
use Rattle.flat_state.specs.StateView.{unix_of}
use Rattle.flat_file_calls.proofs.Settling.{settles-by, settles-to, files-changed}
use Rattle.flat_name_calls.proofs.MakingLaws.{promised-link, link-crowded, link-done}
use Rattle.flat_name_calls.proofs.links.link.Goals as goal

pub returns-then-not-fits : goal.returns-then-not-fits
returns-then-not-fits c =
    let process : model.Process = process_of c.args.process in
    let unix : Unix = with_process (unix_of c.args.state.now) c.args.slot process in
    let from : Spot = spot_of c.in-Ok.from in
    let to : Spot = spot_of c.in-Ok-walk.to in
    let absent : is_some to.inode ≡ false = cc (c.is_some.ensures, c.if-is_some.false) in
    let promises : promised (with_link unix to c.in-Some.inode) + c.inode_pages.result ≡ promised unix + c.pages_with_name-more.result =
    omega (arith, promised-link unix to c.in-Some.inode c.pages_with_name-more.result c.in-Ok-walk.to.directory_below c.pages_with_name-more.ensures.pages, c.inode_pages.ensures.pages) in
    let crowded : has_room (with_link unix to c.in-Some.inode) ≡ false = sym (c.fits.ensures c.args.slot (with_link unix to c.in-Some.inode) c.requires.slot c.requires.free refl promises) ∙ c.if-not-fits.true in
    settles-by unix c.args.slot process (unix_of c.refuse-then-not-fits.new.self) c.refuse-then-not-fits.result
    (link_line unix c.args.slot process c.args.old.now c.args.new.now) (Err Enospc)
    (link-crowded unix c.args.slot process c.args.old.now c.args.new.now from to c.in-Some.inode (sym c.in-Ok.ensures) c.in-Some.is (sym c.is_directory.ensures.directory ∙ c.if-is_directory.false)
    (sym c.in-Ok-walk.ensures) absent (sym c.is_slashed.ensures ∙ c.if-is_slashed.false) (sym c.is_full.ensures ∙ c.if-is_full.false) crowded)
    c.refuse-then-not-fits.ensures

pub returns : goal.returns
returns c =
    let old : Unix = unix_of c.args.state.now in
    let process : model.Process = process_of c.args.process in
    let unix : Unix = with_process old c.args.slot process in
    let from : Spot = spot_of c.in-Ok.from in
    let to : Spot = spot_of c.in-Ok-walk.to in
    let absent : is_some to.inode ≡ false = cc (c.is_some.ensures, c.if-is_some.false) in
    let promises : promised (with_link unix to c.in-Some.inode) + c.inode_pages.result ≡ promised unix + c.pages_with_name-more.result =
    omega (arith, promised-link unix to c.in-Some.inode c.pages_with_name-more.result c.in-Ok-walk.to.directory_below c.pages_with_name-more.ensures.pages, c.inode_pages.ensures.pages) in
    let room : has_room (with_link unix to c.in-Some.inode) ≡ true = sym (c.fits.ensures c.args.slot (with_link unix to c.in-Some.inode) c.requires.slot c.requires.free refl promises) ∙ c.if-not-fits.false in
    let changed : files_of c.add_name.new.self ≡ with_name old.files to.directory to.name c.in-Some.inode =
    c.in_ok-add_name.ensures ∙ ap (λ (name : List ℕ). with_name old.files to.directory name c.in-Some.inode) c.in_ok-name.ensures.items in
    settles-to unix c.args.slot process (unix_of c.reply.new.self) c.reply.result
    (link_line unix c.args.slot process c.args.old.now c.args.new.now) (with_phase (with_link unix to c.in-Some.inode) c.args.slot process (model.answered 0))
    (link-done unix c.args.slot process c.args.old.now c.args.new.now from to c.in-Some.inode (sym c.in-Ok.ensures) c.in-Some.is (sym c.is_directory.ensures.directory ∙ c.if-is_directory.false)
    (sym c.in-Ok-walk.ensures) absent (sym c.is_slashed.ensures ∙ c.if-is_slashed.false) (sym c.is_full.ensures ∙ c.if-is_full.false) room)
    (c.reply.ensures.state
    ∙ files-changed old (with_files old (files_of c.add_name.new.self)) (with_name old.files to.directory to.name c.in-Some.inode) c.args.slot process (model.in_phase process (model.answered 0)) (ap (with_files old) changed))
    c.reply.ensures.answer
