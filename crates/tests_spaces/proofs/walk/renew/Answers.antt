use Rattle.kernel_tables.specs.Kernel.{kernel_of}
use Rattle.tests_spaces.proofs.Walking.{others_kept}
use Rattle.tests_spaces.proofs.walk.renew.Goals as goal

pub next_one-new-requires-clause-from : goal.next_one-new-requires-clause-from
next_one-new-requires-clause-from g c apart = c.drop_one.ensures.others.stay c.args.from.0.0 apart c.requires.from

pub with_new-requires-clause-spaces : goal.with_new-requires-clause-spaces
with_new-requires-clause-spaces g c =
    others_kept (kernel_of (g.T.Store.memory c.args.store.now)) (kernel_of (g.T.Store.memory c.drop_one.new.store)) (kernel_of (g.T.Store.memory c.next_one-new.new.store)) c.args.gone.0.0 c.args.spaces.now
    c.drop_one.ensures.others c.next_one-new.ensures.spaces c.requires.spaces
