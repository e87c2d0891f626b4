use Rattle.std.proofs.Common.{ap}
use Rattle.std.specs.Prelude.{map}
use Rattle.unix_model.specs.Files.{Directory}
use Rattle.flat_files.specs.EntryView.{place_of}
use Rattle.flat_files.specs.SpotView.{spot_of}
use Rattle.flat_state.specs.StateView.{unix_of}
use Rattle.flat_boot.specs.Making.{new_inode}
use Rattle.flat_boot.proofs.BootEntries.{directory-entered, entry-no_room, entry-ok}
use Rattle.flat_boot.proofs.entries.add_dir.Goals as goal

pub returns-clause-ok : goal.returns-clause-ok
returns-clause-ok c = λ number.
    entry-ok number (new_inode (unix_of c.args.state.now) (spot_of c.new_spot-spot.result) (Directory c.new_spot-spot.result.directory (map place_of c.new.result.items))) _
    (directory-entered number (unix_of c.args.state.now) c.args.path.now (spot_of c.new_spot-spot.result) (map place_of c.new.result.items) c.new_spot-spot.ensures (ap (map place_of) c.new.ensures.items))
    (unix_of c.args.state.now) (unix_of c.make.new.state) c.make.result c.make.ensures

pub returns-clause-no_room : goal.returns-clause-no_room
returns-clause-no_room c = λ number.
    entry-no_room number (new_inode (unix_of c.args.state.now) (spot_of c.new_spot-spot.result) (Directory c.new_spot-spot.result.directory (map place_of c.new.result.items))) _
    (directory-entered number (unix_of c.args.state.now) c.args.path.now (spot_of c.new_spot-spot.result) (map place_of c.new.result.items) c.new_spot-spot.ensures (ap (map place_of) c.new.ensures.items))
    (unix_of c.args.state.now) (unix_of c.make.new.state) c.make.result c.make.ensures
