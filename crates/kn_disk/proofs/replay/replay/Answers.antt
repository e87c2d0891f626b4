use Rattle.kn_disk.proofs.ReplayLaws.{contents-step}
use Rattle.kn_disk.proofs.replay.replay.Goals as goal

pub loop-change-preserved : goal.loop-change-preserved
loop-change-preserved c = contents-step c.args.bytes.now.items c.args.log.now c.args.changes.now c.loop-change.change-index _ c.loop-change.bytes.items _ c.loop-change-test.true c.loop-change.invariant c.in-Ok.ensures
