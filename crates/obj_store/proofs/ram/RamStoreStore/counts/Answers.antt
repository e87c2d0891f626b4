use Rattle.obj_store.specs.StoreLaws.{ram-pages, ram-nodes}
use Rattle.obj_store.proofs.ram.RamStoreStore.counts.Goals as goal

pub returns-clause-pages : goal.returns-clause-pages
returns-clause-pages c = ram-pages c.args.self.now

pub returns-clause-nodes : goal.returns-clause-nodes
returns-clause-nodes c = ram-nodes c.args.self.now
