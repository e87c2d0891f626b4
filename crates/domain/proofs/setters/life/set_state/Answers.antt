use Rattle.kernel_tables.specs.Kernel.{kernel_of}
use Rattle.domain.proofs.Living.{live_high, alive_low}
use Rattle.domain.proofs.setters.life.set_state.Goals as goal

pub put_service-requires-clause-service : goal.put_service-requires-clause-service
put_service-requires-clause-service g c = alive_low (kernel_of (g.T.Store.memory c.args.store.now)) c.args.root.0 c.requires.good c.requires.alive c.if-root-lt15.true

pub returns-then-root-lt15-clause-numbers : goal.returns-then-root-lt15-clause-numbers
returns-then-root-lt15-clause-numbers g c = λ live. absurd (live_high (kernel_of (g.T.Store.memory c.args.store.now)) c.args.root.0 c.requires.good live c.if-root-lt15.true)
