-- The walks that those of the plain machine stand for.
use Rattle.std.specs.Prelude.{ℕ, List, Result, Ok, Err}
use Rattle.unix_model.specs.declared.calls.Errno.{Errno}
use Rattle.unix_model.specs.Files.{Files}
use Rattle.unix_model.specs.Paths as model
use Rattle.unix_model.specs.Refusals.{◌>>=◌}
use Rattle.flat_files.specs.declared.spot.Spot.{Spot}

abbrev pub spot_of : Spot → model.Spot
spot_of spot = record { directory = spot.directory; name = spot.name.now; inode = spot.inode }

abbrev pub walk_of : Result Spot Errno → Result model.Spot Errno
walk_of (Ok spot) = Ok (spot_of spot)
walk_of (Err errno) = Err errno

-- one part more of a walk
abbrev pub after_part : Files → Result model.Spot Errno → List ℕ → Result model.Spot Errno
after_part files found part = found >>= (λ spot. model.stepped files spot part)
