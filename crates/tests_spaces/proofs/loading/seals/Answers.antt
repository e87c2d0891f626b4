use Rattle.kernel_tables.specs.Kernel.{kernel_of}
use Rattle.tests_spaces.proofs.Loads.{sealed_ready, sealed_space}
use Rattle.tests_spaces.proofs.loading.seals.Goals as goal

pub returns-clause-ready : goal.returns-clause-ready
returns-clause-ready g c =
    sealed_ready (kernel_of (g.T.Store.memory c.args.store.now)) (kernel_of (g.T.Store.memory c.seal_plan.new.store)) c.args.space.0.0 c.args.plan.now.loads.items
    c.requires c.seal_plan.ensures.good c.seal_plan.ensures.sealed

pub returns-clause-space : goal.returns-clause-space
returns-clause-space g c =
    sealed_space (kernel_of (g.T.Store.memory c.args.store.now)) (kernel_of (g.T.Store.memory c.seal_plan.new.store)) c.args.space.0.0 c.args.plan.now.loads.items
    c.requires c.seal_plan.ensures.sealed
