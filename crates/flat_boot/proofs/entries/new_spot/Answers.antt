use Rattle.std.proofs.Common.{◌≡◌, None, Ok, sym}
use Rattle.unix_model.specs.Paths.{walked}
use Rattle.flat_files.specs.FilesView.{files_of}
use Rattle.flat_files.specs.SpotView.{spot_of}
use Rattle.flat_boot.proofs.NewWalks.{new-absent, new-in_directory, new-walked}
use Rattle.flat_boot.proofs.entries.new_spot.Goals as goal

pub unreachable-requires : goal.unreachable-requires
unreachable-requires c = new-walked (files_of c.args.state.now.files) c.args.path.now c.in-Err.field-0 (sym c.in-Err.ensures) c.requires

pub returns : goal.returns
returns c =
    let found : walked (files_of c.args.state.now.files) c.args.path.now ≡ Ok (spot_of c.in-Ok.spot) = sym c.in-Ok.ensures in
    let absent : (spot_of c.in-Ok.spot).inode ≡ None = new-absent (files_of c.args.state.now.files) c.args.path.now (spot_of c.in-Ok.spot) found c.requires in
    record { walk = found; absent = absent; directory = new-in_directory (files_of c.args.state.now.files) c.args.path.now (spot_of c.in-Ok.spot) found absent }
