use Rattle.kernel_tables.specs.Kernel.{kernel_of}
use Rattle.domain.specs.Domains.{domains}
use Rattle.invoke.proofs.Waking.{woken_left, woken_set}
use Rattle.invoke.proofs.parking.wake_root.Goals as goal

pub returns-then-tells-clause-woken : goal.returns-then-tells-clause-woken
returns-then-tells-clause-woken g c =
    let old = domains (kernel_of (g.T.Store.memory c.args.store.now)) in
    woken_set old c.args.root.0 c.mark_words.result c.tells.result c.mark_words.ensures c.args.word (domains (kernel_of (g.T.Store.memory c.set_mark_words.new.store))) c.tells.ensures c.if-tells.true c.set_mark_words.ensures.set

pub returns-else-tells-clause-woken : goal.returns-else-tells-clause-woken
returns-else-tells-clause-woken g c =
    let old = domains (kernel_of (g.T.Store.memory c.args.store.now)) in
    woken_left old c.args.root.0 c.mark_words.result c.tells.result c.mark_words.ensures c.args.word c.tells.ensures c.if-tells.false
