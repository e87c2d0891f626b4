use Rattle.std.proofs.Common.{◌≡◌, Ok, Err, [], ◌∷◌, List, ℕ, Result, refl, sym, ap, subst, ◌∙◌}
use Rattle.std.specs.Prelude.{IsSome, Some}
use Rattle.flat_unix.specs.FlatView.{unix_of}
use Rattle.unix_model.specs.Boot.{BootRefusal, NoRoomFor, empty_machine, init_entry, with_boot_entries}
use Rattle.unix_model.specs.State.{Unix}
use Rattle.keynix.specs.Inputs.{BootsAs}
use Rattle.command_line.specs.WordsView.{setup_view}
use Rattle.keynix.proofs.BootSteps.{boot-named, init-new, start-boots, start-fails, store-fails}
use Rattle.keynix.proofs.boot.load_file.Goals as goal

in_empty : (pages quantum : ℕ) (unix : Unix) (file : List ℕ) (stored : Result Unix BootRefusal) → unix ≡ empty_machine pages quantum → with_boot_entries 0 unix (init_entry file ∷ []) ≡ stored
    → with_boot_entries 0 (empty_machine pages quantum) (init_entry file ∷ []) ≡ stored
in_empty pages quantum unix file stored empty made = sym (ap (λ unix. with_boot_entries 0 unix (init_entry file ∷ [])) empty) ∙ made

pub add_file-requires : goal.add_file-requires
add_file-requires c = init-new (setup_view c.args.setup) (unix_of c.in-Ok.flat) c.in-Ok.ensures.empty

pub start-requires : goal.start-requires
start-requires c =
    subst IsSome (sym (boot-named (setup_view c.args.setup) c.args.file.now (unix_of c.add_file.new.self) (in_empty c.args.setup.pages c.args.setup.quantum (unix_of c.in-Ok.flat) c.args.file.now (Ok (unix_of c.add_file.new.self)) c.in-Ok.ensures.empty (c.in-Ok-add_file.ensures.ok 0)))) refl

pub returns-in-Ok-start-clause-loads : goal.returns-in-Ok-start-clause-loads
returns-in-Ok-start-clause-loads c =
    start-boots (setup_view c.args.setup) c.args.file.now c.start.new.self c.requires (unix_of c.add_file.new.self) (in_empty c.args.setup.pages c.args.setup.quantum (unix_of c.in-Ok.flat) c.args.file.now (Ok (unix_of c.add_file.new.self)) c.in-Ok.ensures.empty (c.in-Ok-add_file.ensures.ok 0)) c.in-Ok-start.ensures

pub returns-in-Err-start-clause-loads : goal.returns-in-Err-start-clause-loads
returns-in-Err-start-clause-loads c =
    subst (λ ending. BootsAs (setup_view c.args.setup) c.args.file.now (Some []) (Err ending)) (sym c.fault-in-Err-start.ensures)
    (start-fails (setup_view c.args.setup) c.args.file.now c.requires (unix_of c.add_file.new.self) (unix_of c.add_file.new.self) (unix_of c.start.new.self) (in_empty c.args.setup.pages c.args.setup.quantum (unix_of c.in-Ok.flat) c.args.file.now (Ok (unix_of c.add_file.new.self)) c.in-Ok.ensures.empty (c.in-Ok-add_file.ensures.ok 0)) c.in-Err-start.failed c.in-Err-start.ensures)

pub returns-in-Err-add_file-clause-loads : goal.returns-in-Err-add_file-clause-loads
returns-in-Err-add_file-clause-loads c =
    subst (λ ending. BootsAs (setup_view c.args.setup) c.args.file.now (Some []) (Err ending)) (sym c.fault.ensures)
    (store-fails (setup_view c.args.setup) c.args.file.now c.requires c.in-Err-add_file.failed c.in-Err-add_file.ensures.err
    (λ full. in_empty c.args.setup.pages c.args.setup.quantum (unix_of c.in-Ok.flat) c.args.file.now (Err (NoRoomFor 0)) c.in-Ok.ensures.empty (c.in-Err-add_file.ensures.no_room 0 (ap (λ failed. Err failed) full))))
