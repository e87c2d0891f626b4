use Rattle.kn_disk.proofs.ReplayLaws.{spoil-none, spoil-step}
use Rattle.kn_disk.proofs.replay.spoil.Goals as goal

pub loop-change-init : goal.loop-change-init
loop-change-init c = spoil-none c.args.byte c.args.bytes.now.items c.args.log.now

pub loop-change-preserved : goal.loop-change-preserved
loop-change-preserved c = spoil-step c.args.byte c.args.bytes.now.items c.args.log.now c.args.changes.now c.loop-change.change-index _ c.loop-change.bytes.items _ c.loop-change-test.true c.loop-change.invariant c.spoil_one.ensures
