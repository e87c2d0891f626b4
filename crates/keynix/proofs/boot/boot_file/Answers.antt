use Rattle.std.proofs.Common.{◌∷◌, refl}
use Rattle.command_line.specs.WordsView.{setup_view}
use Rattle.keynix.proofs.BootSteps.{unread-boots}
use Rattle.keynix.proofs.boot.boot_file.Goals as goal

pub returns-in-Err-clause-boots : goal.returns-in-Err-clause-boots
returns-in-Err-clause-boots g c = λ rest told.
    unread-boots (setup_view c.args.setup) (127 ∷ rest) (g.S.Source.left c.read_file.new.input) c.in-Err.ending refl (c.in-Err.ensures.reads rest told)
