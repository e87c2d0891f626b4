use Rattle.std.proofs.Common.{◌≡◌, ◌+◌, ◌<◌, ◌++◌, [], List, ℕ, Some, None, Err, true, false, arith, refl, ap, sym, ◌∙◌}
use Rattle.std.specs.Int.{to_le_bytes, w32}
use Rattle.unix_model.specs.declared.calls.Errno.TheVariants.{Enomem}
use Rattle.unix_model.specs.FileCalls.{pipe_line, with_descriptors, with_pipe}
use Rattle.unix_model.specs.Files.{Pipe, inode_pages}
use Rattle.unix_model.specs.Process as model
use Rattle.unix_model.specs.Room.{has_room, promised}
use Rattle.unix_model.specs.State.{Unix, with_phase, with_process}
use Rattle.unix_model.specs.Tables.{at}
use Rattle.unix_model.proofs.RoomLaws.{promised-inode}
use Rattle.flat_state.specs.ProcessView.{process_of}
use Rattle.flat_state.specs.StateView.{unix_of}
use Rattle.flat_file_calls.proofs.FileLines.{pipe-crowded, pipe-done}
use Rattle.flat_file_calls.proofs.Settling.{settles-by, settles-to, files-changed}
use Rattle.flat_file_calls.proofs.pipe_ends.pipe.Goals as goal

-- what a new pipe promises
pipe_promises : (unix : Unix) (inode reader writer : ℕ) → inode < 1024 → at unix.files.inodes inode ≡ None
    → promised (with_pipe unix inode reader writer) + 0 ≡ promised unix + 1
pipe_promises unix inode reader writer inside free =
    let none : inode_pages (at unix.files.inodes inode) ≡ 0 = ap inode_pages free in
    omega (arith, promised-inode unix (Some (Pipe [])) (with_pipe unix inode reader writer).files.descriptions inode inside, none)

pub returns-then-not-fits : goal.returns-then-not-fits
returns-then-not-fits c =
    let process : model.Process = process_of c.args.process in
    let unix : Unix = with_process (unix_of c.args.state.now) c.args.slot process in
    let inode : ℕ = c.in-Some-free_inode.inode in
    let reader : ℕ = c.in-Some-free_description.reader in
    let writer : ℕ = c.in-Some-next_description.writer in
    let promises : promised (with_pipe unix inode reader writer) + 0 ≡ promised unix + 1 = pipe_promises unix inode reader writer c.in-Some-free_inode.ensures.free.below_limit c.in-Some-free_inode.ensures.free.free in
    let crowded : has_room (with_pipe unix inode reader writer) ≡ false = sym (c.fits.ensures c.args.slot (with_pipe unix inode reader writer) c.requires.slot c.requires.free refl promises) ∙ c.if-not-fits.true in
    settles-by unix c.args.slot process (unix_of c.refuse-then-not-fits.new.self) c.refuse-then-not-fits.result
    (pipe_line unix c.args.slot process c.args.address) (Err Enomem)
    (pipe-crowded unix c.args.slot process c.in-Some.first c.in-Some-next_closed.second reader writer inode c.args.address
    (sym c.in-Some.ensures.least) (sym c.in-Some-next_closed.ensures.least) (sym c.in-Some-free_description.ensures.least) (sym c.in-Some-next_description.ensures.least) (sym c.in-Some-free_inode.ensures.least) crowded)
    c.refuse-then-not-fits.ensures

pub returns : goal.returns
returns c =
    let old : Unix = unix_of c.args.state.now in
    let process : model.Process = process_of c.args.process in
    let unix : Unix = with_process old c.args.slot process in
    let inode : ℕ = c.in-Some-free_inode.inode in
    let reader : ℕ = c.in-Some-free_description.reader in
    let writer : ℕ = c.in-Some-next_description.writer in
    let first : ℕ = c.in-Some.first in
    let second : ℕ = c.in-Some-next_closed.second in
    let bytes : List ℕ = to_le_bytes w32 first ++ to_le_bytes w32 second in
    let next : model.Process = with_descriptors process first reader second writer in
    let promises : promised (with_pipe unix inode reader writer) + 0 ≡ promised unix + 1 = pipe_promises unix inode reader writer c.in-Some-free_inode.ensures.free.below_limit c.in-Some-free_inode.ensures.free.free in
    let room : has_room (with_pipe unix inode reader writer) ≡ true = sym (c.fits.ensures c.args.slot (with_pipe unix inode reader writer) c.requires.slot c.requires.free refl promises) ∙ c.if-not-fits.false in
    let opened : process_of c.with_descriptor-process.result ≡ next =
    c.with_descriptor-process.ensures ∙ ap (λ (process : model.Process). model.with_descriptor process second writer) c.with_descriptor.ensures in
    settles-to unix c.args.slot process (unix_of c.reply_with.new.self) c.reply_with.result
    (pipe_line unix c.args.slot process c.args.address) (with_phase (with_pipe unix inode reader writer) c.args.slot next (model.answered_with 0 c.args.address bytes))
    (pipe-done unix c.args.slot process first second reader writer inode c.args.address
    (sym c.in-Some.ensures.least) (sym c.in-Some-next_closed.ensures.least) (sym c.in-Some-free_description.ensures.least) (sym c.in-Some-next_description.ensures.least) (sym c.in-Some-free_inode.ensures.least) room)
    (c.reply_with.ensures.state
    ∙ (ap (λ (process : model.Process). with_phase (unix_of c.make_pipe.new.state) c.args.slot process (model.answered_with 0 c.args.address c.in_ok-bytes.bytes.items)) opened
    ∙ (ap (λ (bytes : List ℕ). with_phase (unix_of c.make_pipe.new.state) c.args.slot next (model.answered_with 0 c.args.address bytes)) c.in_ok-bytes.ensures.bytes
    ∙ files-changed old (unix_of c.make_pipe.new.state) (with_pipe old inode reader writer).files c.args.slot process (model.in_phase next (model.answered_with 0 c.args.address bytes)) c.make_pipe.ensures)))
    c.reply_with.ensures.answer
