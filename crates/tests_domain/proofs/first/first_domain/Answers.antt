use Rattle.std.proofs.Common.{[], ap}
use Rattle.kernel_tables.specs.Kernel.{kernel_of}
use Rattle.domain.specs.Domains.{Domain}
use Rattle.space_bank.specs.Shares.{nothing_outside}
use Rattle.tests_domain.proofs.Ready.{first}
use Rattle.tests_domain.proofs.first.first_domain.Goals as goal

pub new_domain-requires-clause-shares : goal.new_domain-requires-clause-shares
new_domain-requires-clause-shares g c = (nothing_outside, [], c.space_node-space.ensures.ready.shares)

pub returns-clause-first : goal.returns-clause-first
returns-clause-first g c =
    first (kernel_of (g.T.Store.memory c.space_node-space.new.store)) (kernel_of (g.T.Store.memory c.new_domain.new.store)) c.space_node-space.result.0 c.new_domain.result.0
    c.space_node-space.ensures.ready c.new_domain.ensures.made

pub returns-clause-whole : goal.returns-clause-whole
returns-clause-whole g c = ap (λ (d : Domain). d.whole) (returns-clause-first g c).domain

pub returns-clause-live : goal.returns-clause-live
returns-clause-live g c = ap (λ (d : Domain). d.live) (returns-clause-first g c).domain

pub returns-clause-no_buffer : goal.returns-clause-no_buffer
returns-clause-no_buffer g c = ap (λ (d : Domain). d.buffer) (returns-clause-first g c).domain
