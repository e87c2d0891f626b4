use Rattle.std.proofs.Common.{sym, arith}
use Rattle.kernel_tables.specs.Kernel.{kernel_of}
use Rattle.kernel_tables.specs.Rows.{domain_rows, of_domain, entry_at}
use Rattle.domain.specs.Rules.{RowsGood}
use Rattle.domain.proofs.RowLaws.{rows_good_number}
use Rattle.domain.proofs.DomainLaws.{live_meter, still_live}
use Rattle.domain.specs.Domains.{domain_at}
use Rattle.unix_model.specs.Tables.{at}
use Rattle.std.proofs.Common.{◌≡◌, true}
use Rattle.domain.proofs.Writing.{root_mine, domain_below, domain_used, number_put, writes_number}
use Rattle.std.proofs.Common.{subst}
use Rattle.domain.proofs.setters.put_number.Goals as goal

pub write_key-requires-clause-inside : goal.write_key-requires-clause-inside
write_key-requires-clause-inside g c =
    let kernel = kernel_of (g.T.Store.memory c.args.store.now) in
    domain_below kernel c.args.root.0 c.requires.good (root_mine kernel c.args.root.0 (live_meter (domain_rows kernel) c.args.root.0 c.requires.live))

pub write_key-requires-clause-used : goal.write_key-requires-clause-used
write_key-requires-clause-used g c =
    let kernel = kernel_of (g.T.Store.memory c.args.store.now) in
    domain_used (entry_at kernel.node_entries c.args.root.0) (root_mine kernel c.args.root.0 (live_meter (domain_rows kernel) c.args.root.0 c.requires.live))

pub returns-clause-put : goal.returns-clause-put
returns-clause-put g c =
    let old = kernel_of (g.T.Store.memory c.args.store.now) in
    let mine = root_mine old c.args.root.0 (live_meter (domain_rows old) c.args.root.0 c.requires.live) in
    let low = c.requires.high in
    (number_put old (kernel_of (g.T.Store.memory c.write_key.new.store)) c.args.root.0 c.args.place c.args.key c.requires.good
    (root_mine old c.args.root.0 (live_meter (domain_rows old) c.args.root.0 c.requires.live)) (omega arith) c.write_key.ensures.written c.write_key.ensures.shares).rows_now of_domain
    (root_mine old c.args.root.0 (live_meter (domain_rows old) c.args.root.0 c.requires.live))

pub returns-clause-rows : goal.returns-clause-rows
returns-clause-rows g c =
    let old = kernel_of (g.T.Store.memory c.args.store.now) in
    subst RowsGood (sym (returns-clause-put g c))
    (rows_good_number (domain_rows old) c.args.root.0 c.args.place c.args.key c.requires.rows (live_meter (domain_rows old) c.args.root.0 c.requires.live) c.requires.low c.requires.high c.requires.fits)

pub returns-clause-others : goal.returns-clause-others
returns-clause-others g c =
    let old = kernel_of (g.T.Store.memory c.args.store.now) in
    let new = kernel_of (g.T.Store.memory c.write_key.new.store) in
    let high = c.requires.high in
    let meter = live_meter (domain_rows old) c.args.root.0 c.requires.live in
    writes_number old new c.args.root.0 c.args.place c.args.key (root_mine old c.args.root.0 (live_meter (domain_rows old) c.args.root.0 c.requires.live)) (omega arith)
    ((c.requires.rows.roots c.args.root.0 (live_meter (domain_rows old) c.args.root.0 c.requires.live)).numbers c.args.place c.requires.low c.requires.high).number c.requires.fits.number
    (number_put old new c.args.root.0 c.args.place c.args.key c.requires.good
    (root_mine old c.args.root.0 (live_meter (domain_rows old) c.args.root.0 c.requires.live)) (omega arith) c.write_key.ensures.written c.write_key.ensures.shares)

pub returns-clause-live : goal.returns-clause-live
returns-clause-live g c =
    let old = kernel_of (g.T.Store.memory c.args.store.now) in
    subst (λ rows. (at (domain_at rows) c.args.root.0).live ≡ true) (sym (returns-clause-put g c))
    (still_live (domain_rows old) c.args.root.0 c.args.place c.args.key c.requires.rows (live_meter (domain_rows old) c.args.root.0 c.requires.live) c.requires.low)
