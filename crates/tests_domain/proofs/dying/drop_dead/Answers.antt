use Rattle.kernel_tables.specs.Kernel.{kernel_of}
use Rattle.space_bank.specs.Shares.{nothing_outside}
use Rattle.tests_domain.proofs.Ready.{drops_there}
use Rattle.tests_domain.proofs.dying.drop_dead.Goals as goal

pub drop_domain-requires-clause-drops : goal.drop_domain-requires-clause-drops
drop_domain-requires-clause-drops g c = drops_there (kernel_of (g.T.Store.memory c.args.store.now)) c.args.root.0 c.requires.dead

pub drop_domain-requires-clause-shares : goal.drop_domain-requires-clause-shares
drop_domain-requires-clause-shares g c = (nothing_outside, c.requires.dead.hand, c.requires.dead.shares)
