use Rattle.std.proofs.Common.{◌∙◌, ap, sym}
use Rattle.kernel_tables.specs.Kernel.{kernel_of}
use Rattle.kernel_tables.specs.Rows.{domain_rows}
use Rattle.domain.specs.Keys.{words_in}
use Rattle.domain.proofs.DomainLaws.{root_marks}
use Rattle.domain.proofs.readers.mark_words.Goals as goal

pub returns : goal.returns
returns g c =
    let kernel = kernel_of (g.T.Store.memory c.args.store.now) in
    c.words_in.ensures ∙ ap words_in c.root_key.ensures ∙ sym (root_marks (domain_rows kernel) c.args.root.0 c.requires.live)
