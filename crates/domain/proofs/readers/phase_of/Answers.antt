use Rattle.std.proofs.Common.{◌∙◌, ap, sym}
use Rattle.kernel_tables.specs.Kernel.{kernel_of}
use Rattle.kernel_tables.specs.Rows.{domain_rows}
use Rattle.domain.specs.Domains.{phase_by}
use Rattle.domain.specs.Keys.{word_in}
use Rattle.domain.proofs.DomainLaws.{root_phase}
use Rattle.domain.proofs.readers.phase_of.Goals as goal

pub returns : goal.returns
returns g c =
    let kernel = kernel_of (g.T.Store.memory c.args.store.now) in
    c.phase_by.ensures ∙ ap phase_by (c.word.ensures ∙ ap (λ key. word_in key 2) c.root_key.ensures)
    ∙ sym (root_phase (domain_rows kernel) c.args.root.0 c.requires.live)
