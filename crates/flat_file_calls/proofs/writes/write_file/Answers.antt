use Rattle.std.proofs.Common.{◌≡◌, ◌+◌, ℕ, List, length, Err, Some, false, true, arith, refl, ap, sym, ◌∙◌}
use Rattle.std.proofs.lemmas.Bool.Decides.{nat_tests}
use Rattle.std.specs.Prelude.{nat_le}
use Rattle.unix_model.specs.declared.calls.Errno.TheVariants.{Efbig, Enospc}
use Rattle.unix_model.specs.FileCalls.{overwritten, with_contents, with_offset, with_written, write_file, write_place}
use Rattle.unix_model.specs.Files.{File, inode_length, inode_pages}
use Rattle.unix_model.specs.Limits.{most_file_bytes}
use Rattle.unix_model.specs.Process as model
use Rattle.unix_model.specs.Room.{has_room, promised}
use Rattle.unix_model.specs.State.{Unix, Opened, with_phase, with_process}
use Rattle.unix_model.specs.Tables.{at}
use Rattle.unix_model.proofs.RoomLaws.{promised-inode}
use Rattle.flat_files.specs.FilesView.{files_of}
use Rattle.flat_files.specs.OpenedView.{opened_of}
use Rattle.flat_state.specs.ProcessView.{process_of}
use Rattle.flat_state.specs.StateView.{unix_of}
use Rattle.flat_file_calls.specs.Held.{stored_bytes}
use Rattle.flat_file_calls.proofs.FileLines.{write-large, write-crowded, write-done}
use Rattle.flat_file_calls.proofs.LengthLaws.{overwritten-length}
use Rattle.flat_file_calls.proofs.Settling.{settles-by, settles-to, written-out}
use Rattle.flat_file_calls.proofs.writes.write_file.Goals as goal

pub returns-then-place-ge4194304 : goal.returns-then-place-ge4194304
unfolding most_file_bytes
returns-then-place-ge4194304 c = λ bytes there.
    let process : model.Process = process_of c.args.process in
    let unix : Unix = with_process (unix_of c.args.state.now) c.args.slot process in
    let file : Opened = opened_of c.args.file in
    let place : c.write_place-place.result ≡ write_place file.description bytes = c.write_place-place.ensures bytes (c.length_of-length.ensures.length ∙ ap inode_length there) in
    let large : nat_le most_file_bytes c.write_place-place.result ≡ true = grind (arith, nat_tests) in
    settles-by unix c.args.slot process (unix_of c.refuse.new.self) c.refuse.result
    (write_file unix c.args.slot process file bytes c.args.written.now) (Err Efbig)
    (write-large unix c.args.slot c.write_place-place.result process file bytes c.args.written.now place large)
    c.refuse.ensures

pub returns-then-not-fits : goal.returns-then-not-fits
unfolding most_file_bytes
returns-then-not-fits c = λ bytes there.
    let process : model.Process = process_of c.args.process in
    let unix : Unix = with_process (unix_of c.args.state.now) c.args.slot process in
    let file : Opened = opened_of c.args.file in
    let part : List ℕ = c.front-part.result.now in
    let at_place : ℕ = c.write_place-place.result in
    let size : c.length_of-length.result ≡ length bytes = c.length_of-length.ensures.length ∙ ap inode_length there in
    let place : at_place ≡ write_place file.description bytes = c.write_place-place.ensures bytes size in
    let below : nat_le most_file_bytes at_place ≡ false = grind (arith, nat_tests) in
    let new : inode_pages (Some (File (overwritten bytes at_place part))) ≡ c.div_ceil.result = omega (arith, overwritten-length bytes part at_place, c.div_ceil.ensures, c.max.ensures, size) in
    let old : inode_pages (at unix.files.inodes c.args.file.description.inode) ≡ c.div_ceil-2.result = omega (arith, ap inode_pages there, c.div_ceil-2.ensures, size) in
    let promises : promised (with_written unix file bytes at_place part) + c.div_ceil-2.result ≡ promised unix + c.div_ceil.result =
    omega (arith, promised-inode unix (Some (File (overwritten bytes at_place part))) (with_offset unix.files file (at_place + length part)).descriptions c.args.file.description.inode c.args.file.description.below_limit, new, old) in
    let crowded : has_room (with_written unix file bytes at_place part) ≡ false = sym (c.fits.ensures c.args.slot (with_written unix file bytes at_place part) c.requires.slot c.requires.free refl promises) ∙ c.if-not-fits.true in
    settles-by unix c.args.slot process (unix_of c.refuse-then-not-fits.new.self) c.refuse-then-not-fits.result
    (write_file unix c.args.slot process file bytes c.args.written.now) (Err Enospc)
    (write-crowded unix c.args.slot at_place process file bytes c.args.written.now part place below c.front-part.ensures crowded)
    c.refuse-then-not-fits.ensures

pub returns : goal.returns
unfolding most_file_bytes
returns c = λ bytes there.
    let old_state : Unix = unix_of c.args.state.now in
    let process : model.Process = process_of c.args.process in
    let unix : Unix = with_process old_state c.args.slot process in
    let file : Opened = opened_of c.args.file in
    let part : List ℕ = c.front-part.result.now in
    let at_place : ℕ = c.write_place-place.result in
    let size : c.length_of-length.result ≡ length bytes = c.length_of-length.ensures.length ∙ ap inode_length there in
    let place : at_place ≡ write_place file.description bytes = c.write_place-place.ensures bytes size in
    let below : nat_le most_file_bytes at_place ≡ false = grind (arith, nat_tests) in
    let new : inode_pages (Some (File (overwritten bytes at_place part))) ≡ c.div_ceil.result = omega (arith, overwritten-length bytes part at_place, c.div_ceil.ensures, c.max.ensures, size) in
    let old : inode_pages (at unix.files.inodes c.args.file.description.inode) ≡ c.div_ceil-2.result = omega (arith, ap inode_pages there, c.div_ceil-2.ensures, size) in
    let promises : promised (with_written unix file bytes at_place part) + c.div_ceil-2.result ≡ promised unix + c.div_ceil.result =
    omega (arith, promised-inode unix (Some (File (overwritten bytes at_place part))) (with_offset unix.files file (at_place + length part)).descriptions c.args.file.description.inode c.args.file.description.below_limit, new, old) in
    let room : has_room (with_written unix file bytes at_place part) ≡ true = sym (c.fits.ensures c.args.slot (with_written unix file bytes at_place part) c.requires.slot c.requires.free refl promises) ∙ c.if-not-fits.false in
    let changed : files_of c.overwrite.new.files ≡ with_contents old_state.files file (File (overwritten bytes at_place part)) =
    c.in_ok-overwrite.ensures ∙ ap (λ (held : List ℕ). with_contents old_state.files file (File (overwritten held at_place part))) (ap stored_bytes there) in
    settles-to unix c.args.slot process (unix_of c.reply.new.self) c.reply.result
    (write_file unix c.args.slot process file bytes c.args.written.now) (with_phase (with_written unix file bytes at_place part) c.args.slot process (model.answered (length part)))
    (write-done unix c.args.slot at_place process file bytes c.args.written.now part place below c.front-part.ensures room)
    (written-out old_state (unix_of c.set_offset.new.state) (unix_of c.reply.new.self) c.args.slot process file bytes part at_place _ _ (files_of c.overwrite.new.files) changed c.set_offset.ensures (omega arith) (omega arith) c.reply.ensures.state)
    c.reply.ensures.answer
