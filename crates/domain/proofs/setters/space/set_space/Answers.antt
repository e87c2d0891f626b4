use Rattle.kernel_tables.specs.Kernel.{kernel_of}
use Rattle.kernel_tables.specs.Rows.{domain_rows}
use Rattle.domain.specs.Sets.{number_in}
use Rattle.domain.proofs.DomainLaws.{live_meter}
use Rattle.domain.proofs.Handing.{space_domains, space_lives, space_handed, space_rows}
use Rattle.domain.proofs.Writing.{root_mine}
use Rattle.std.proofs.Common.{subst}
use Rattle.kernel_forest.specs.Moves.{PutsRow}
use Rattle.domain.proofs.setters.space.set_space.Goals as goal

pub put_row-requires-clause-mine : goal.put_row-requires-clause-mine
put_row-requires-clause-mine g c =
    let old = kernel_of (g.T.Store.memory c.args.store.now) in
    root_mine old c.args.root.0 (live_meter (domain_rows old) c.args.root.0 c.requires.live)

pub returns-clause-set : goal.returns-clause-set
returns-clause-set g c =
    let old = kernel_of (g.T.Store.memory c.args.store.now) in
    let new = kernel_of (g.T.Store.memory c.put_row.new.store) in
    space_domains old new c.args.root.0 (number_in c.args.space) c.requires.rows c.requires.live (subst (PutsRow old new c.args.root.0 0) c.space_key.ensures c.put_row.ensures.put)

pub returns-clause-lives : goal.returns-clause-lives
returns-clause-lives g c =
    let old = kernel_of (g.T.Store.memory c.args.store.now) in
    let new = kernel_of (g.T.Store.memory c.put_row.new.store) in
    space_lives old new c.args.root.0 (number_in c.args.space) c.requires.rows c.requires.live (subst (PutsRow old new c.args.root.0 0) c.space_key.ensures c.put_row.ensures.put)

pub returns-clause-handed : goal.returns-clause-handed
returns-clause-handed g c =
    let old = kernel_of (g.T.Store.memory c.args.store.now) in
    let new = kernel_of (g.T.Store.memory c.put_row.new.store) in
    space_handed old new c.args.root.0 (number_in c.args.space) c.requires.rows c.requires.live (subst (PutsRow old new c.args.root.0 0) c.space_key.ensures c.put_row.ensures.put)

pub returns-clause-rows : goal.returns-clause-rows
returns-clause-rows g c =
    let old = kernel_of (g.T.Store.memory c.args.store.now) in
    let new = kernel_of (g.T.Store.memory c.put_row.new.store) in
    space_rows old new c.args.root.0 (number_in c.args.space) c.requires.rows c.requires.live (subst (PutsRow old new c.args.root.0 0) c.space_key.ensures c.put_row.ensures.put)
