use Rattle.std.proofs.Common.{◌≤◌, ◌∙◌, ap, sym, subst, Some, None}
use Rattle.kernel_tables.specs.Kernel.{kernel_of}
use Rattle.kernel_tables.specs.Rows.{domain_rows}
use Rattle.domain.specs.Domains.{description_by}
use Rattle.domain.proofs.WordLaws.{root_descriptor}
use Rattle.domain.proofs.readers.words.descriptor.Goals as goal

pub word_at-requires-clause-named : goal.word_at-requires-clause-named
word_at-requires-clause-named g c = record { by = c.args.root.0; place = 4; named = c.in-Some.ensures }

pub description_by-requires : goal.description_by-requires
description_by-requires g c =
    let rows = domain_rows (kernel_of (g.T.Store.memory c.args.store.now)) in
    subst (λ w. w ≤ 2048) (sym c.word_at.ensures) (((c.requires.rows.words c.in-Some.node.0).descriptors c.args.root.0 c.in-Some.ensures).fit c.args.number c.requires.number)

pub returns-in-Some : goal.returns-in-Some
returns-in-Some g c =
    c.description_by.ensures ∙ ap description_by c.word_at.ensures
    ∙ sym (root_descriptor (domain_rows (kernel_of (g.T.Store.memory c.args.store.now))) c.args.root.0 (Some c.in-Some.node.0) c.args.number c.requires.live c.in-Some.ensures)

pub returns-in-None : goal.returns-in-None
returns-in-None g c = sym (root_descriptor (domain_rows (kernel_of (g.T.Store.memory c.args.store.now))) c.args.root.0 None c.args.number c.requires.live c.in-None.ensures)
