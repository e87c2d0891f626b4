use Rattle.std.proofs.Common.{[], ap}
use Rattle.kernel_tables.specs.Kernel.{kernel_of}
use Rattle.space_bank.specs.Shares.{nothing_outside}
use Rattle.domain.specs.Domains.{Life}
use Rattle.tests_invoke.proofs.CallerLaws.{is_caller, has_directories, is_alone, is_apart, life_is}
use Rattle.tests_invoke.proofs.caller.first_caller.Goals as goal

pub new_domain-requires-clause-shares : goal.new_domain-requires-clause-shares
new_domain-requires-clause-shares g c = (nothing_outside, [], c.fresh_space-space.ensures.fresh.ready.shares)

pub returns-clause-caller : goal.returns-clause-caller
returns-clause-caller g c =
    is_caller (kernel_of (g.T.Store.memory c.fresh_space-space.new.store)) (kernel_of (g.T.Store.memory c.new_domain.new.store)) c.fresh_space-space.result.0 c.new_domain.result.0
    c.fresh_space-space.ensures.fresh c.new_domain.ensures.made

pub returns-clause-directories : goal.returns-clause-directories
returns-clause-directories g c =
    has_directories (kernel_of (g.T.Store.memory c.fresh_space-space.new.store)) (kernel_of (g.T.Store.memory c.new_domain.new.store)) c.fresh_space-space.result.0 c.new_domain.result.0
    c.fresh_space-space.ensures.fresh c.new_domain.ensures.made

pub returns-clause-alone : goal.returns-clause-alone
returns-clause-alone g c =
    is_alone (kernel_of (g.T.Store.memory c.fresh_space-space.new.store)) (kernel_of (g.T.Store.memory c.new_domain.new.store)) c.fresh_space-space.result.0 c.new_domain.result.0
    c.fresh_space-space.ensures.fresh c.new_domain.ensures.made

pub returns-clause-apart : goal.returns-clause-apart
returns-clause-apart g c =
    is_apart (kernel_of (g.T.Store.memory c.fresh_space-space.new.store)) (kernel_of (g.T.Store.memory c.new_domain.new.store)) c.fresh_space-space.result.0 c.new_domain.result.0
    c.fresh_space-space.ensures.fresh c.new_domain.ensures.made

pub returns-clause-runs : goal.returns-clause-runs
returns-clause-runs g c = ap (λ (l : Life). l.state)
    (life_is (kernel_of (g.T.Store.memory c.fresh_space-space.new.store)) (kernel_of (g.T.Store.memory c.new_domain.new.store)) c.fresh_space-space.result.0 c.new_domain.result.0
    c.fresh_space-space.ensures.fresh c.new_domain.ensures.made)
