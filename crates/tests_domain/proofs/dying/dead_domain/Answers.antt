use Rattle.std.proofs.Common.{[], ◌∷◌, rules}
use Rattle.kernel_tables.specs.Kernel.{kernel_of}
use Rattle.space_bank.specs.Shares.{nothing_outside}
use Rattle.unix_model.specs.Tables.{at}
use Rattle.domain.specs.Domains.{domains}
use Rattle.domain.specs.Keys.{key_of_space}
use Rattle.tests_domain.proofs.Ready.{ends_there, space_in_hand, is_dead}
use Rattle.tests_domain.proofs.dying.dead_domain.Goals as goal

pub make_zombie-requires-clause-ends : goal.make_zombie-requires-clause-ends
make_zombie-requires-clause-ends g c = ends_there (kernel_of (g.T.Store.memory c.first_domain-root.new.store)) (kernel_of (g.T.Store.memory c.set_phase.new.store)) (kernel_of (g.T.Store.memory c.set_space.new.store)) c.first_domain-root.result.0 c.first_domain-root.ensures.first c.set_phase.ensures.set c.set_phase.ensures.others c.set_space.ensures.set c.set_space.ensures.handed

pub make_zombie-requires-clause-shares : goal.make_zombie-requires-clause-shares
make_zombie-requires-clause-shares g c = (
  nothing_outside,
  key_of_space (at (domains (kernel_of (g.T.Store.memory c.set_phase.new.store))) c.first_domain-root.result.0).space ∷ [],
  space_in_hand (kernel_of (g.T.Store.memory c.first_domain-root.new.store)) (kernel_of (g.T.Store.memory c.set_phase.new.store)) (kernel_of (g.T.Store.memory c.set_space.new.store)) c.first_domain-root.result.0 c.first_domain-root.ensures.first c.set_phase.ensures.set c.set_phase.ensures.others c.set_space.ensures.set c.set_space.ensures.handed,
)

pub returns-clause-dead : goal.returns-clause-dead
returns-clause-dead g c = is_dead (kernel_of (g.T.Store.memory c.first_domain-root.new.store)) (kernel_of (g.T.Store.memory c.set_phase.new.store)) (kernel_of (g.T.Store.memory c.set_space.new.store)) c.first_domain-root.result.0 c.first_domain-root.ensures.first c.set_phase.ensures.set c.set_phase.ensures.others c.set_space.ensures.set c.set_space.ensures.handed (kernel_of (g.T.Store.memory c.make_zombie.new.store)) c.make_zombie.ensures.ended

pub returns-clause-live : goal.returns-clause-live
returns-clause-live g c = (returns-clause-dead g c).drops.live

pub returns-clause-keeps : goal.returns-clause-keeps
returns-clause-keeps g c = search (g.met.T.Store.keeps_trans, rules) depth 14
