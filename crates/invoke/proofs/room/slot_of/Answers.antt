use Rattle.std.proofs.Common.{ap, sym, ◌∙◌, arith}
use Rattle.kernel_tables.specs.Kernel.{kernel_of}
use Rattle.kernel_tables.specs.Rows.{domain_rows, spelled_or_null, key_table}
use Rattle.domain.specs.Domains.{Domain, full_domain}
use Rattle.domain.specs.Keys.{meter_in}
use Rattle.domain.proofs.DomainLaws.{live_meter, root_domain}
use Rattle.domain.proofs.Writing.{root_mine, row_key, domain_below}
use Rattle.invoke.proofs.room.slot_of.Goals as goal

pub key_at-requires-clause-node : goal.key_at-requires-clause-node
key_at-requires-clause-node g c =
    let old = kernel_of (g.T.Store.memory c.args.store.now) in
    domain_below old c.args.root.0 c.requires.good (root_mine old c.args.root.0 (live_meter (domain_rows old) c.args.root.0 c.requires.live))

pub returns-in-Some : goal.returns-in-Some
unfolding full_domain key_table
returns-in-Some g c =
    let old = kernel_of (g.T.Store.memory c.args.store.now) in
    let meter = live_meter (domain_rows old) c.args.root.0 c.requires.live in
    c.meter_in.ensures
    ∙ ap (λ o. meter_in (spelled_or_null o)) (sym c.in-Some.is ∙ c.key_at.ensures)
    ∙ ap meter_in (row_key old c.args.root.0 2 (root_mine old c.args.root.0 meter) (omega arith))
    ∙ sym (ap (λ (d : Domain). d.slot) (root_domain (domain_rows old) c.args.root.0 meter))

pub returns-in-None : goal.returns-in-None
unfolding full_domain key_table
returns-in-None g c =
    let old = kernel_of (g.T.Store.memory c.args.store.now) in
    let meter = live_meter (domain_rows old) c.args.root.0 c.requires.live in
    ap (λ o. meter_in (spelled_or_null o)) (sym c.in-None.is ∙ c.key_at.ensures)
    ∙ ap meter_in (row_key old c.args.root.0 2 (root_mine old c.args.root.0 meter) (omega arith))
    ∙ sym (ap (λ (d : Domain). d.slot) (root_domain (domain_rows old) c.args.root.0 meter))
