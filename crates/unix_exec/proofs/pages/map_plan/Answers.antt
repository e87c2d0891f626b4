use Rattle.std.proofs.Common.{◌^◌, subst}
use Rattle.kernel_tables.specs.Kernel.{kernel_of}
use Rattle.unix_exec.specs.Plans.{MapsPlan}
use Rattle.forest.specs.Walks.{map_of}
use Rattle.kernel_forest.specs.Trees.{forest_of}
use Rattle.unix_exec.proofs.Memories.{mapped_is, needed_is}
use Rattle.unix_exec.proofs.pages.map_plan.Goals as goal

pub returns-clause-needed : goal.returns-clause-needed
returns-clause-needed g c =
    let old = kernel_of (g.T.Store.memory c.args.store.now) in
    let new = kernel_of (g.T.Store.memory c.map_loads.new.store) in
    needed_is (map_of (forest_of new).keys c.args.space.0.0) c.args.plan.now.loads.items c.requires.loads
    (subst (λ loads. MapsPlan old new c.args.space.0.0 loads (2 ^ 19)) c.as_slice.ensures.value c.map_loads.ensures.mapped).here

pub returns-clause-memory : goal.returns-clause-memory
returns-clause-memory g c zero =
    let old = kernel_of (g.T.Store.memory c.args.store.now) in
    let new = kernel_of (g.T.Store.memory c.map_loads.new.store) in
    mapped_is old new c.args.space.0.0 c.args.plan.now.loads.items c.requires.loads
    (subst (λ loads. MapsPlan old new c.args.space.0.0 loads (2 ^ 19)) c.as_slice.ensures.value c.map_loads.ensures.mapped) zero
