use Rattle.std.proofs.Common.{◌≡◌, ◌+◌, ◌*◌, ◌/◌, Some, Option, List, ℕ, drop, length, length-drop, arith, ap, sym, ◌∙◌}
use Rattle.std.proofs.lemmas.List.{drop-map}
use Rattle.std.specs.Prelude.{map}
use Rattle.unix_model.specs.FileCalls.{getdents_line, listed_bytes, looked_at, with_offset}
use Rattle.unix_model.specs.Files as model_files
use Rattle.unix_model.specs.Process as model
use Rattle.unix_model.specs.State.{Unix, Opened, with_files, with_phase, with_process}
use Rattle.unix_model.specs.Tables.{at}
use Rattle.flat_files.specs.declared.entry.Entry.{Entry}
use Rattle.flat_files.specs.EntryView.{place_of}
use Rattle.flat_files.specs.OpenedView.{opened_of}
use Rattle.flat_state.specs.ProcessView.{process_of}
use Rattle.flat_state.specs.StateView.{unix_of}
use Rattle.flat_file_calls.proofs.FileLines.{getdents-done}
use Rattle.flat_file_calls.proofs.Settling.{settles-to, files-changed}
use Rattle.flat_file_calls.proofs.listing.getdents.Goals as goal

pub overflow_add-offset : goal.overflow_add-offset
overflow_add-offset c =
    omega (
      arith,
      ap length c.rest.ensures.rest,
      length-drop (c.in-Some.file.description.offset / 32) c.deref.result.now,
      ap length c.deref.ensures.value,
      c.in-Some-Directory.directory.few,
      c.in_ok-listing-in-Some-Directory.ensures.few,
    )

pub returns : goal.returns
returns c =
    let old : Unix = unix_of c.args.state.now in
    let process : model.Process = process_of c.args.process in
    let unix : Unix = with_process old c.args.slot process in
    let file : Opened = opened_of c.in-Some.file in
    let start : ℕ = c.in-Some.file.description.offset / 32 in
    let places : List (Option Entry) = c.in-Some-Directory.directory.places.items in
    let bytes : List ℕ = c.in_ok-listing-in-Some-Directory.listing.bytes.items in
    let offset : ℕ = c.in-Some.file.description.offset + 32 * c.in_ok-listing-in-Some-Directory.listing.looked in
    let found : Some (model_files.Directory c.in-Some-Directory.directory.parent (map place_of places)) ≡ at unix.files.inodes c.in-Some.file.description.inode =
    rw c.in-Some-Directory.field-0-is at c.in-Some-Directory.ensures.value in
    let shown : map place_of c.rest.result.now ≡ drop start (map place_of places) =
    ap (map place_of) (c.rest.ensures.rest ∙ ap (λ (places : List (Option Entry)). drop start places) c.deref.ensures.value) ∙ sym (drop-map place_of start places) in
    let bytes_are : bytes ≡ listed_bytes (c.args.count / 32) (drop start (map place_of places)) =
    c.in_ok-listing-in-Some-Directory.ensures.bytes ∙ ap (listed_bytes (c.args.count / 32)) shown in
    let looked : c.in_ok-listing-in-Some-Directory.listing.looked ≡ looked_at (c.args.count / 32) (drop start (map place_of places)) =
    c.in_ok-listing-in-Some-Directory.ensures.looked ∙ ap (looked_at (c.args.count / 32)) shown in
    settles-to unix c.args.slot process (unix_of c.reply_with.new.self) c.reply_with.result
    (getdents_line unix c.args.slot process c.args.number c.args.address c.args.count)
    (with_phase (with_files unix (with_offset unix.files file offset)) c.args.slot process (model.answered_with (length bytes) c.args.address bytes))
    (getdents-done unix c.args.slot c.args.number process file (sym c.in-Some.ensures.opened) c.args.address c.args.count offset c.in-Some-Directory.directory.parent bytes (map place_of places)
    (sym found) bytes_are (ap (λ (looked : ℕ). c.in-Some.file.description.offset + 32 * looked) looked))
    (c.reply_with.ensures.state
    ∙ (ap (λ (value : ℕ). with_phase (unix_of c.set_offset.new.state) c.args.slot process (model.answered_with value c.args.address bytes)) (omega arith)
    ∙ files-changed old (unix_of c.set_offset.new.state) (with_offset old.files file offset) c.args.slot process (model.in_phase process (model.answered_with (length bytes) c.args.address bytes)) c.set_offset.ensures))
    c.reply_with.ensures.answer
