use Rattle.std.proofs.Common.{Some, sym}
use Rattle.unix_model.specs.NameCalls.{open_line}
use Rattle.unix_model.specs.Paths.{Spot}
use Rattle.unix_model.specs.Process as model
use Rattle.unix_model.specs.State.{Unix, with_process}
use Rattle.flat_files.specs.SpotView.{spot_of}
use Rattle.flat_state.specs.ProcessView.{process_of}
use Rattle.flat_state.specs.StateView.{unix_of}
use Rattle.flat_file_calls.proofs.Settling.{settles-by}
use Rattle.flat_name_calls.specs.Opening.{open_spot}
use Rattle.flat_name_calls.proofs.OpeningLaws.{open-walked}
use Rattle.flat_name_calls.proofs.opening.open.Goals as goal

pub returns-in-Some-inode : goal.returns-in-Some-inode
returns-in-Some-inode c =
    let process : model.Process = process_of c.args.process in
    let unix : Unix = with_process (unix_of c.args.state.now) c.args.slot process in
    let spot : Spot = spot_of c.in-Ok.spot in
    settles-by unix c.args.slot process (unix_of c.open_there.new.state) c.open_there.result
    (open_line unix c.args.slot process c.args.path.now c.args.flags)
    (open_spot unix c.args.slot process c.args.path.now c.args.flags c.in-Some.descriptor c.in-Some-free_description.number spot (Some c.in-Some-inode.inode))
    (open-walked unix c.args.slot process c.args.path.now c.args.flags c.in-Some.descriptor c.in-Some-free_description.number spot (Some c.in-Some-inode.inode)
    (sym c.in-Some.ensures.least) (sym c.in-Some-free_description.ensures.least) (sym c.in-Ok.ensures) c.in-Some-inode.is)
    (c.open_there.ensures c.args.path.now spot)
