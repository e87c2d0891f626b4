use Rattle.kernel_tables.specs.Kernel.{kernel_of}
use Rattle.invoke.specs.Room.{room_with, entries_with, key_now, key_was}
use Rattle.invoke.proofs.Composing.{then_set}
use Rattle.invoke.proofs.reach.set_life.Goals as goal

pub returns-clause-goes_on : goal.returns-clause-goes_on
returns-clause-goes_on g c = λ first now seat invokes.
    then_set (kernel_of (g.T.Store.memory c.args.store.now)) (kernel_of (g.T.Store.memory c.set_state.new.store)) c.args.root.0 c.args.state c.args.count
    c.requires.alive c.set_state.ensures.others c.set_state.ensures.numbers c.set_state.ensures.set c.set_state.ensures.domains
    first now (room_with first seat) (entries_with first seat) (key_now seat) (key_was seat) invokes
