use Rattle.std.proofs.Common.{◌^◌, subst}
use Rattle.kernel_tables.specs.Kernel.{kernel_of}
use Rattle.unix_exec.specs.Seals.{SealsPlan}
use Rattle.unix_exec.proofs.Memories.{sealed_is}
use Rattle.unix_exec.proofs.seal.seal_plan.Goals as goal

pub returns-clause-memory : goal.returns-clause-memory
returns-clause-memory g c =
    let old = kernel_of (g.T.Store.memory c.args.store.now) in
    let new = kernel_of (g.T.Store.memory c.seal_loads.new.store) in
    sealed_is old new c.args.space.0.0 c.args.plan.now.loads.items c.requires.loads
    (subst (λ loads. SealsPlan old new c.args.space.0.0 loads (2 ^ 19)) c.as_slice.ensures.value c.seal_loads.ensures.sealed)
