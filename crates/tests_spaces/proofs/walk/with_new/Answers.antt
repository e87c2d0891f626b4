use Rattle.kernel_tables.specs.Kernel.{kernel_of}
use Rattle.tests_spaces.proofs.Walking.{put_behind}
use Rattle.tests_spaces.proofs.walk.with_new.Goals as goal

pub loop-space-preserved : goal.loop-space-preserved
loop-space-preserved g c =
    let kernel = kernel_of (g.T.Store.memory c.args.store.now) in
    put_behind kernel c.loop-space.all.items c.keep.new.spaces.items c.still_or_new.result c.keep.ensures c.loop-space.invariant c.still_or_new.ensures
