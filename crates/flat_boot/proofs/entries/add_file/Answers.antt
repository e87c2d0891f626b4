use Rattle.std.proofs.Common.{sym, ◌∙◌}
use Rattle.unix_model.specs.Boot.{NewFile}
use Rattle.unix_model.specs.Files.{File}
use Rattle.flat_files.specs.SpotView.{spot_of}
use Rattle.flat_state.specs.StateView.{unix_of}
use Rattle.flat_boot.specs.Making.{new_inode}
use Rattle.flat_boot.proofs.BootEntries.{entry-no_room, entry-ok, file-entered, too-long}
use Rattle.flat_boot.proofs.entries.add_file.Goals as goal

pub returns-then-is_too_long-clause-no_room : goal.returns-then-is_too_long-clause-no_room
returns-then-is_too_long-clause-no_room c = λ number same.
    too-long number (unix_of c.args.state.now) (record { path = c.args.path.now; node = NewFile c.args.bytes.now }) (sym c.is_too_long.ensures.long ∙ c.if-is_too_long.true)

pub returns-clause-ok : goal.returns-clause-ok
returns-clause-ok c = λ number.
    entry-ok number (new_inode (unix_of c.args.state.now) (spot_of c.new_spot-spot.result) (File c.in-Ok.bytes.items)) _
    (file-entered number (unix_of c.args.state.now) c.args.path.now c.args.bytes.now c.in-Ok.bytes.items (spot_of c.new_spot-spot.result) c.new_spot-spot.ensures
    (sym c.is_too_long.ensures.long ∙ c.if-is_too_long.false) c.in-Ok.ensures.items)
    (unix_of c.args.state.now) (unix_of c.make.new.state) c.make.result c.make.ensures

pub returns-clause-no_room : goal.returns-clause-no_room
returns-clause-no_room c = λ number.
    entry-no_room number (new_inode (unix_of c.args.state.now) (spot_of c.new_spot-spot.result) (File c.in-Ok.bytes.items)) _
    (file-entered number (unix_of c.args.state.now) c.args.path.now c.args.bytes.now c.in-Ok.bytes.items (spot_of c.new_spot-spot.result) c.new_spot-spot.ensures
    (sym c.is_too_long.ensures.long ∙ c.if-is_too_long.false) c.in-Ok.ensures.items)
    (unix_of c.args.state.now) (unix_of c.make.new.state) c.make.result c.make.ensures
