use Rattle.kernel_tables.specs.Kernel.{kernel_of}
use Rattle.domain.specs.Domains.{domains}
use Rattle.invoke.proofs.Waking.{released_left, released_set}
use Rattle.invoke.proofs.parking.release.Goals as goal

pub returns-then-is_set-clause-released : goal.returns-then-is_set-clause-released
returns-then-is_set-clause-released g c =
    let old = domains (kernel_of (g.T.Store.memory c.args.store.now)) in
    released_set old c.args.root.0 c.mark_words.result c.is_set.result c.mark_words.ensures (domains (kernel_of (g.T.Store.memory c.set_mark_words.new.store))) c.is_set.ensures c.if-is_set.true c.set_mark_words.ensures.set

pub returns-else-is_set-clause-released : goal.returns-else-is_set-clause-released
returns-else-is_set-clause-released g c =
    let old = domains (kernel_of (g.T.Store.memory c.args.store.now)) in
    released_left old c.args.root.0 c.mark_words.result c.is_set.result c.mark_words.ensures c.is_set.ensures c.if-is_set.false
