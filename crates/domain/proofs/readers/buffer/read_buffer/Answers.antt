use Rattle.std.proofs.Common.{◌≡◌, ◌∙◌, Some, None, true, false, length, ap, sym, subst}
use Rattle.std.specs.Prelude.{IsSome}
use Rattle.kn_base.specs.Rows.{part_at}
use Rattle.kernel_tables.specs.Kernel.{kernel_of}
use Rattle.kernel_tables.specs.Rows.{domain_rows}
use Rattle.domain.specs.Buffers.{buffer_bytes}
use Rattle.domain.proofs.FieldLaws.{buffer_read}
use Rattle.domain.proofs.Pages.{held_page}
use Rattle.domain.proofs.readers.buffer.read_buffer.Goals as goal

pub unreachable-requires : goal.unreachable-requires
unreachable-requires g c =
    let kernel = kernel_of (g.T.Store.memory c.args.store.now) in
    let no : false ≡ true = subst IsSome (buffer_read (domain_rows kernel) c.args.root.0 c.root_key.result None c.requires.live c.root_key.ensures c.in-None.ensures) c.requires.held in cc

pub read_bank_page-requires-clause-page : goal.read_bank_page-requires-clause-page
read_bank_page-requires-clause-page g c =
    let kernel = kernel_of (g.T.Store.memory c.args.store.now) in
    (held_page kernel c.args.root.0 c.in-Some.page.0 (buffer_read (domain_rows kernel) c.args.root.0 c.root_key.result (Some c.in-Some.page.0) c.requires.live c.root_key.ensures c.in-Some.ensures) c.requires.buffer).inside

pub returns : goal.returns
returns g c =
    let kernel = kernel_of (g.T.Store.memory c.args.store.now) in
    c.read_bank_page.ensures.read
    ∙ ap (λ o. part_at (buffer_bytes kernel o) c.args.start (length c.args.into.now))
    (sym (buffer_read (domain_rows kernel) c.args.root.0 c.root_key.result (Some c.in-Some.page.0) c.requires.live c.root_key.ensures c.in-Some.ensures))
