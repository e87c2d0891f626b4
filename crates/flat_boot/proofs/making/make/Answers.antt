use Rattle.std.proofs.Common.{Ok, refl, sym, ap, ◌∙◌}
use Rattle.unix_model.specs.State.{with_files}
use Rattle.flat_files.specs.InodeView.{inode_of}
use Rattle.flat_files.specs.SpotView.{spot_of}
use Rattle.flat_state.specs.StateView.{unix_of}
use Rattle.flat_boot.proofs.BootEntries.{inode-there, no-inode}
use Rattle.flat_boot.proofs.making.make.Goals as goal

pub returns-in-None : goal.returns-in-None
returns-in-None c =
    (no-inode (unix_of c.args.state.now) (spot_of c.args.spot) (inode_of c.args.inode) (c.in-None.ensures.number (inode_of c.args.inode) (sym c.pages.ensures.pages)), refl)

pub returns-in-Ok : goal.returns-in-Ok
returns-in-Ok c =
    inode-there (unix_of c.args.state.now) (spot_of c.args.spot) (inode_of c.args.inode) c.in-Some.number (c.in-Some.ensures.number (inode_of c.args.inode) (sym c.pages.ensures.pages))
    ∙ ap (λ files. Ok (with_files (unix_of c.args.state.now) files)) (sym c.in-Ok.ensures)
