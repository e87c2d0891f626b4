use Rattle.std.proofs.Common.{Err, sym, subst, ◌++◌}
use Rattle.std.specs.Option.{option_to_list}
use Rattle.keynix.specs.Inputs.{BootsAs}
use Rattle.command_line.specs.WordsView.{setup_view}
use Rattle.keynix.proofs.BootSteps.{text-boots, text-fails}
use Rattle.keynix.proofs.boot.boot_bundle.Goals as goal

pub returns-in-Ok-clause-boots : goal.returns-in-Ok-clause-boots
returns-in-Ok-clause-boots g c = λ rest told other.
    text-boots (setup_view c.args.setup) (option_to_list c.args.first ++ rest) (g.S.Source.left c.boot.new.from) c.in-Ok.flat other (c.in-Ok.ensures.boots rest told)

pub returns-in-Err-clause-boots : goal.returns-in-Err-clause-boots
returns-in-Err-clause-boots g c = λ rest told other.
    subst (λ ending. BootsAs (setup_view c.args.setup) (option_to_list c.args.first ++ rest) (g.S.Source.left c.boot.new.from) (Err ending)) (sym c.boot_fault.ensures)
    (text-fails (setup_view c.args.setup) (option_to_list c.args.first ++ rest) (g.S.Source.left c.boot.new.from) c.in-Err.failed other (c.in-Err.ensures.boots rest told))
