use Rattle.std.proofs.Common.{◌∙◌}
use Rattle.kernel_tables.specs.Kernel.{kernel_of}
use Rattle.kernel_tables.specs.Rows.{domain_rows}
use Rattle.domain.proofs.DomainLaws.{live_meter}
use Rattle.domain.proofs.Writing.{root_mine, domain_below, row_key}
use Rattle.domain.proofs.keys.root_key.Goals as goal

pub spelled_key-requires-clause-node : goal.spelled_key-requires-clause-node
spelled_key-requires-clause-node g c =
    let kernel = kernel_of (g.T.Store.memory c.args.store.now) in
    domain_below kernel c.args.root.0 c.requires.good (root_mine kernel c.args.root.0 (live_meter (domain_rows kernel) c.args.root.0 c.requires.live))

pub returns : goal.returns
returns g c =
    let kernel = kernel_of (g.T.Store.memory c.args.store.now) in
    c.spelled_key.ensures ∙ row_key kernel c.args.root.0 c.args.place (root_mine kernel c.args.root.0 (live_meter (domain_rows kernel) c.args.root.0 c.requires.live)) c.requires.place
