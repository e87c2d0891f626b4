use Rattle.std.proofs.Common.{◌/◌, ◌%◌, length, ap, sym, ◌∙◌}
use Rattle.kn_base.specs.Rows.{part_at}
use Rattle.kernel_tables.specs.Kernel.{kernel_of}
use Rattle.file_trees.proofs.Pages.{page_absent, page_found, page_none, zero_part}
use Rattle.file_trees.proofs.reading.read_piece.Goals as goal

pub returns-then-root-eq0 : goal.returns-then-root-eq0
returns-then-root-eq0 g c =
    c.clear.ensures
    ∙ sym
    (ap (λ page. part_at page (c.args.at % 4096) (length c.args.into.now)) (page_absent (kernel_of (g.T.Store.memory c.args.store.now)) c.args.root (c.args.at / 4096) c.if-root-eq0.true)
    ∙ zero_part (c.args.at % 4096) (length c.args.into.now) c.requires.within)

pub returns-in-Some : goal.returns-in-Some
returns-in-Some g c =
    c.read_memory_page.ensures.read
    ∙ ap (λ page. part_at page (c.args.at % 4096) (length c.args.into.now))
    (sym (page_found (kernel_of (g.T.Store.memory c.args.store.now)) c.args.root (c.args.at / 4096) _ c.if-root-eq0.false (sym c.in-Some.ensures.found)))

pub returns-in-None : goal.returns-in-None
returns-in-None g c =
    c.clear-in-None.ensures
    ∙ sym
    (ap (λ page. part_at page (c.args.at % 4096) (length c.args.into.now)) (page_none (kernel_of (g.T.Store.memory c.args.store.now)) c.args.root (c.args.at / 4096) c.if-root-eq0.false (sym c.in-None.ensures.found))
    ∙ zero_part (c.args.at % 4096) (length c.args.into.now) c.requires.within)
