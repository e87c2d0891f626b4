use Rattle.std.proofs.Common.{sym, ◌∙◌}
use Rattle.kn_disk.proofs.ReplayLaws.{settles-none, settles-synced, settles-other}
use Rattle.kn_disk.proofs.replay.settled_count.Goals as goal
use Rattle.kn_disk.proofs.replay.settled_count.Goals.{then-is_sync, else-is_sync}

pub loop-index-init : goal.loop-index-init
loop-index-init c = settles-none

pub loop-index-preserved : goal.loop-index-preserved
loop-index-preserved c =
    elim c.if-is_sync.branch [
      | then-is_sync w ↦ rw w.count-is (settles-synced c.args.changes.now c.loop-index.index _ c.loop-index-test.true (sym c.is_sync.ensures ∙ w.if-is_sync.true))
      | else-is_sync w ↦ rw w.count-is (settles-other c.args.changes.now c.loop-index.index _ c.loop-index.count c.loop-index-test.true (sym c.is_sync.ensures ∙ w.if-is_sync.false) c.loop-index.invariant)
    ]
