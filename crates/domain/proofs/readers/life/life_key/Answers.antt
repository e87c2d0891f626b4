use Rattle.std.proofs.Common.{◌∙◌, ap}
use Rattle.kernel_tables.specs.Kernel.{kernel_of}
use Rattle.domain.specs.Domains.{life_in}
use Rattle.domain.proofs.Living.{life_there, root_below}
use Rattle.domain.proofs.readers.life.life_key.Goals as goal

pub spelled_key-requires-clause-node : goal.spelled_key-requires-clause-node
spelled_key-requires-clause-node g c = root_below (kernel_of (g.T.Store.memory c.args.store.now)) c.args.root.0 c.requires.good c.requires.alive

pub returns : goal.returns
returns g c = ap life_in c.spelled_key.ensures ∙ life_there (kernel_of (g.T.Store.memory c.args.store.now)) c.args.root.0 c.requires.good c.requires.alive
