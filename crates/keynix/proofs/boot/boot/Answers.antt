use Rattle.std.proofs.Common.{◌≡◌, false, sym, subst, ◌∙◌}
use Rattle.unix_model.specs.Boot.{is_elf}
use Rattle.keynix.specs.Inputs.{BootsAs}
use Rattle.command_line.specs.WordsView.{setup_view}
use Rattle.keynix.proofs.BootSteps.{begins, elf-first}
use Rattle.keynix.proofs.boot.boot.Goals as goal

pub returns-then-begins_file-clause-boots : goal.returns-then-begins_file-clause-boots
returns-then-begins_file-clause-boots g c = λ bytes told.
    let begun = begins (g.S.Source.left c.args.input.now) (g.S.Source.left c.next.new.self) c.in-Ok.first bytes c.in-Ok.ensures.gives told in
    subst (λ bytes. BootsAs (setup_view c.args.setup) bytes (g.S.Source.left c.boot_file.new.input) c.boot_file.result)
    (sym (elf-first c.in-Ok.first begun.rest bytes (sym c.begins_file.ensures ∙ c.if-begins_file.true) begun.bytes_are))
    (c.boot_file.ensures.boots begun.rest begun.left_is)

pub returns-else-begins_file-clause-boots : goal.returns-else-begins_file-clause-boots
returns-else-begins_file-clause-boots g c = λ bytes told.
    let begun = begins (g.S.Source.left c.args.input.now) (g.S.Source.left c.next.new.self) c.in-Ok.first bytes c.in-Ok.ensures.gives told in
    subst (λ bytes. BootsAs (setup_view c.args.setup) bytes (g.S.Source.left c.boot_bundle.new.input) c.boot_bundle.result)
    (sym begun.bytes_are)
    (c.boot_bundle.ensures.boots begun.rest begun.left_is (subst (λ bytes. is_elf bytes ≡ false) begun.bytes_are (begun.elf_is ∙ sym c.begins_file.ensures ∙ c.if-begins_file.false)))
