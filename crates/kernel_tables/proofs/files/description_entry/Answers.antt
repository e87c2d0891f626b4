use Rattle.kernel_tables.proofs.Sizes.{length-descriptions}
use Rattle.kernel_tables.proofs.files.description_entry.Goals as goal

pub returns-clause-rows : goal.returns-clause-rows
returns-clause-rows g c = length-descriptions (g.T.Store.memory c.args.store.now) c.requires.sized
