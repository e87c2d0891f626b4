use Rattle.std.proofs.Common.{◌≡◌, take}
use Rattle.kn_disk.specs.Steps.{contents_after}
use Rattle.kn_disk.specs.Changes.{steps_of}
use Rattle.kn_disk.proofs.replay.replay.Given as goal

abbrev pub invariant-loop-change : goal.invariant-loop-change
invariant-loop-change l = l.bytes.items ≡ contents_after l.initial.bytes.items (steps_of l.log (take l.change-index l.changes))
