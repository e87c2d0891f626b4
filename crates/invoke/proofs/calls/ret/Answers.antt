use Rattle.std.proofs.Common.{sym, ◌∙◌}
use Rattle.kernel_tables.specs.Kernel.{kernel_of}
use Rattle.domain.specs.Domains.{lives}
use Rattle.invoke.specs.Room.{Stays}
use Rattle.invoke.proofs.Composing.{stays}
use Rattle.invoke.specs.Steps.{NobodyReached}
use Rattle.invoke.proofs.Leaving.{return_leaves}
use Rattle.invoke.proofs.Reaching.{return_alone}
use Rattle.invoke.proofs.calls.ret.Goals as goal

pub returns-then-is_null-clause-goes : goal.returns-then-is_null-clause-goes
returns-then-is_null-clause-goes g c =
    let old = kernel_of (g.T.Store.memory c.args.store.now) in
    return_alone old (kernel_of (g.T.Store.memory c.set_life.new.store)) c.args.from.0 c.count_of-count.result c.args.to (sym c.is_null.ensures ∙ c.if-is_null.true) c.count_of-count.ensures
    (c.set_life.ensures.goes_on old (lives old) Stays (stays old))

pub returns-then-is_null-clause-others : goal.returns-then-is_null-clause-others
returns-then-is_null-clause-others g c =
    return_leaves (kernel_of (g.T.Store.memory c.args.store.now)) (kernel_of (g.T.Store.memory c.set_life.new.store)) c.args.from.0 c.args.to NobodyReached (returns-then-is_null-clause-goes g c)
