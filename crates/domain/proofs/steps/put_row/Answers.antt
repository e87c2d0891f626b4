use Rattle.std.proofs.Common.{◌∙◌, ap}
use Rattle.kernel_tables.specs.Kernel.{Kernel, kernel_of}
use Rattle.kernel_tables.specs.Rows.{entry_at, of_domain}
use Rattle.domain.proofs.Writing.{domain_below, domain_used, number_put}
use Rattle.domain.proofs.steps.put_row.Goals as goal

pub write_key-requires-clause-inside : goal.write_key-requires-clause-inside
write_key-requires-clause-inside g c = domain_below (kernel_of (g.T.Store.memory c.args.store.now)) c.args.node.0 c.requires.good c.requires.mine

pub write_key-requires-clause-used : goal.write_key-requires-clause-used
write_key-requires-clause-used g c = domain_used (entry_at (kernel_of (g.T.Store.memory c.args.store.now)).node_entries c.args.node.0) c.requires.mine

pub returns-clause-put : goal.returns-clause-put
returns-clause-put g c =
    number_put (kernel_of (g.T.Store.memory c.args.store.now)) (kernel_of (g.T.Store.memory c.write_key.new.store)) c.args.node.0 c.args.place c.args.key
    c.requires.good c.requires.mine c.requires.place c.write_key.ensures.written c.write_key.ensures.shares

pub returns-clause-mine : goal.returns-clause-mine
returns-clause-mine g c = ap (λ (k : Kernel). of_domain (entry_at k.node_entries c.args.node.0)) c.write_key.ensures.written ∙ c.requires.mine
