use Rattle.kernel_tables.proofs.Sizes.{length-memory_page}
use Rattle.kernel_tables.proofs.bank.read_memory_page.Goals as goal

pub returns-clause-whole : goal.returns-clause-whole
returns-clause-whole g c =
    length-memory_page (g.T.Store.memory c.args.store.now) c.args.page.0 c.requires.sized c.requires.page
    (g.met.T.Store.page_length c.args.store.now)
