use Rattle.std.proofs.Common.{sym}
use Rattle.kernel_tables.specs.Kernel.{kernel_of}
use Rattle.dir_domain.proofs.Seen.{no-tree, no-page}
use Rattle.file_trees.proofs.Pages.{page_found}
use Rattle.dir_domain.proofs.row.tree_page.Goals as goal

pub returns-then-root-eq0-clause-bytes : goal.returns-then-root-eq0-clause-bytes
returns-then-root-eq0-clause-bytes g c = no-tree (kernel_of (g.T.Store.memory c.args.store.now)) c.args.root c.args.number c.requires.standing c.if-root-eq0.true

pub returns-in-Some-clause-bytes : goal.returns-in-Some-clause-bytes
returns-in-Some-clause-bytes g c =
    sym (page_found (kernel_of (g.T.Store.memory c.args.store.now)) c.args.root c.args.number (record { writable = c.in-Some.found.writable; page = c.in-Some.found.page.0 }) c.if-root-eq0.false (sym c.in-Some.ensures.found))

pub returns-in-None-clause-bytes : goal.returns-in-None-clause-bytes
returns-in-None-clause-bytes g c = no-page (kernel_of (g.T.Store.memory c.args.store.now)) c.args.root c.args.number c.requires.standing c.if-root-eq0.false (sym c.in-None.ensures.found)
