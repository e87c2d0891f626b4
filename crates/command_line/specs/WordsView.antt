-- The commands and options that the program's own stand for.
use Rattle.std.specs.Prelude.{option_map}
use Rattle.command_line.specs.Words as model
use Rattle.command_line.specs.declared.options.LoadOptions.{LoadOptions}
use Rattle.command_line.specs.declared.options.Options.{Options}
use Rattle.command_line.specs.declared.setup.Load.{Load}
use Rattle.command_line.specs.declared.setup.Plan.{Plan}
use Rattle.command_line.specs.declared.setup.Plan.TheVariants.{Round, Given}
use Rattle.command_line.specs.declared.setup.Setup.{Setup}
use Rattle.command_line.specs.declared.words.Command.{Command}
use Rattle.command_line.specs.declared.words.Command.TheVariants.{Once, Work, Asm}

abbrev pub plan_view : Plan → model.Plan
plan_view Round = model.Round
plan_view Given = model.Given

abbrev pub setup_view : Setup → model.Setup
setup_view setup = record { pages = setup.pages; quantum = setup.quantum; turns = setup.turns; plan = plan_view setup.plan }

abbrev pub load_view : Load → model.Load
load_view load = record { seed = load.seed; lines = load.lines }

abbrev pub command_view : Command → model.Command
command_view (Once setup) = model.Once (setup_view setup)
command_view (Work load) = model.Work (load_view load)
command_view Asm = model.Asm

abbrev pub options_view : Options → model.Options
options_view options = record { pages = options.pages; quantum = options.quantum; turns = options.turns; plan = option_map plan_view options.plan }

abbrev pub load_options_view : LoadOptions → model.LoadOptions
load_options_view options = record { seed = options.seed; lines = options.lines }
