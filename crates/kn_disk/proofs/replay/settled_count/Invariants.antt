use Rattle.std.proofs.Common.{take}
use Rattle.kn_disk.specs.Changes.{Settles}
use Rattle.kn_disk.proofs.replay.settled_count.Given as goal

abbrev pub invariant-loop-index : goal.invariant-loop-index
invariant-loop-index l = Settles (take l.index l.changes) l.count
