use Rattle.std.proofs.Common.{◌≡◌, ◌+◌, Some, ℕ, arith, refl, ap, sym, ◌∙◌, List, false, true}
use Rattle.std.proofs.lemmas.Bool.Decides.{nat_tests}
use Rattle.std.specs.Prelude.{nat_lt}
use Rattle.unix_model.specs.declared.calls.Errno.TheVariants.{Efbig, Enospc}
use Rattle.std.proofs.Common.{Err}
use Rattle.unix_model.specs.FileCalls.{ftruncate_line, resized, with_contents, with_resized}
use Rattle.unix_model.specs.Files.{File, inode_pages}
use Rattle.unix_model.specs.Limits.{most_file_bytes}
use Rattle.unix_model.specs.Process as model
use Rattle.unix_model.specs.Room.{has_room, promised}
use Rattle.unix_model.specs.State.{Unix, Opened, with_files, with_phase, with_process}
use Rattle.unix_model.specs.Tables.{at}
use Rattle.unix_model.proofs.RoomLaws.{promised-inode}
use Rattle.flat_files.specs.FilesView.{files_of}
use Rattle.flat_files.specs.OpenedView.{opened_of}
use Rattle.flat_state.specs.ProcessView.{process_of}
use Rattle.flat_state.specs.StateView.{unix_of}
use Rattle.flat_file_calls.specs.Held.{stored_bytes}
use Rattle.flat_file_calls.proofs.FileLines.{truncate-large, truncate-crowded, truncate-done}
use Rattle.flat_file_calls.proofs.LengthLaws.{resized-length}
use Rattle.flat_file_calls.proofs.Settling.{settles-by, settles-to, files-changed}
use Rattle.flat_file_calls.proofs.lengths.ftruncate.Goals as goal

pub returns-then-size-gt4194304 : goal.returns-then-size-gt4194304
unfolding most_file_bytes
returns-then-size-gt4194304 c =
    let process : model.Process = process_of c.args.process in
    let unix : Unix = with_process (unix_of c.args.state.now) c.args.slot process in
    let found : Some (File c.in-Some-File.contents.bytes.items) ≡ at unix.files.inodes c.in-Some.file.description.inode = rw c.in-Some-File.field-0-is at c.in-Some-File.ensures.value in
    let large : nat_lt most_file_bytes c.args.size ≡ true = grind (arith, nat_tests) in
    settles-by unix c.args.slot process (unix_of c.refuse-then-size-gt4194304.new.self) c.refuse-then-size-gt4194304.result
    (ftruncate_line unix c.args.slot process c.args.number c.args.size) (Err Efbig)
    (truncate-large unix c.args.slot c.args.number process (opened_of c.in-Some.file) (sym c.in-Some.ensures.opened) c.args.size c.in-Some-File.contents.bytes.items (sym found) large)
    c.refuse-then-size-gt4194304.ensures

pub returns-then-not-fits : goal.returns-then-not-fits
unfolding most_file_bytes
returns-then-not-fits c =
    let process : model.Process = process_of c.args.process in
    let unix : Unix = with_process (unix_of c.args.state.now) c.args.slot process in
    let file : Opened = opened_of c.in-Some.file in
    let held : List ℕ = c.in-Some-File.contents.bytes.items in
    let found : Some (File held) ≡ at unix.files.inodes c.in-Some.file.description.inode = rw c.in-Some-File.field-0-is at c.in-Some-File.ensures.value in
    let small : nat_lt most_file_bytes c.args.size ≡ false = grind (arith, nat_tests) in
    let new : inode_pages (Some (File (resized held c.args.size))) ≡ c.div_ceil-2.result = omega (arith, resized-length held c.args.size, c.div_ceil-2.ensures) in
    let old : inode_pages (at unix.files.inodes c.in-Some.file.description.inode) ≡ c.div_ceil.result = omega (arith, ap inode_pages (sym found), c.div_ceil.ensures) in
    let promises : promised (with_resized unix file held c.args.size) + c.div_ceil.result ≡ promised unix + c.div_ceil-2.result =
    omega (arith, promised-inode unix (Some (File (resized held c.args.size))) unix.files.descriptions c.in-Some.file.description.inode c.in-Some.file.description.below_limit, new, old) in
    let crowded : has_room (with_resized unix file held c.args.size) ≡ false = sym (c.fits.ensures c.args.slot (with_resized unix file held c.args.size) c.requires.slot c.requires.free refl promises) ∙ c.if-not-fits.true in
    settles-by unix c.args.slot process (unix_of c.refuse-then-not-fits.new.self) c.refuse-then-not-fits.result
    (ftruncate_line unix c.args.slot process c.args.number c.args.size) (Err Enospc)
    (truncate-crowded unix c.args.slot c.args.number process file (sym c.in-Some.ensures.opened) c.args.size held (sym found) small crowded)
    c.refuse-then-not-fits.ensures

pub returns : goal.returns
unfolding most_file_bytes
returns c =
    let old_state : Unix = unix_of c.args.state.now in
    let process : model.Process = process_of c.args.process in
    let unix : Unix = with_process old_state c.args.slot process in
    let file : Opened = opened_of c.in-Some.file in
    let held : List ℕ = c.in-Some-File.contents.bytes.items in
    let found : Some (File held) ≡ at unix.files.inodes c.in-Some.file.description.inode = rw c.in-Some-File.field-0-is at c.in-Some-File.ensures.value in
    let small : nat_lt most_file_bytes c.args.size ≡ false = grind (arith, nat_tests) in
    let new : inode_pages (Some (File (resized held c.args.size))) ≡ c.div_ceil-2.result = omega (arith, resized-length held c.args.size, c.div_ceil-2.ensures) in
    let old : inode_pages (at unix.files.inodes c.in-Some.file.description.inode) ≡ c.div_ceil.result = omega (arith, ap inode_pages (sym found), c.div_ceil.ensures) in
    let promises : promised (with_resized unix file held c.args.size) + c.div_ceil.result ≡ promised unix + c.div_ceil-2.result =
    omega (arith, promised-inode unix (Some (File (resized held c.args.size))) unix.files.descriptions c.in-Some.file.description.inode c.in-Some.file.description.below_limit, new, old) in
    let room : has_room (with_resized unix file held c.args.size) ≡ true = sym (c.fits.ensures c.args.slot (with_resized unix file held c.args.size) c.requires.slot c.requires.free refl promises) ∙ c.if-not-fits.false in
    let changed : files_of c.resize.new.files ≡ with_contents old_state.files file (File (resized held c.args.size)) =
    c.in_ok-resize.ensures ∙ ap (λ (bytes : List ℕ). with_contents old_state.files file (File (resized bytes c.args.size))) (ap stored_bytes (sym found)) in
    settles-to unix c.args.slot process (unix_of c.reply.new.self) c.reply.result
    (ftruncate_line unix c.args.slot process c.args.number c.args.size) (with_phase (with_resized unix file held c.args.size) c.args.slot process (model.answered 0))
    (truncate-done unix c.args.slot c.args.number process file (sym c.in-Some.ensures.opened) c.args.size held (sym found) small room)
    (c.reply.ensures.state ∙ files-changed old_state (with_files old_state (files_of c.resize.new.files)) (with_contents old_state.files file (File (resized held c.args.size))) c.args.slot process (model.in_phase process (model.answered 0)) (ap (with_files old_state) changed))
    c.reply.ensures.answer
