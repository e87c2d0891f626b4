use Rattle.std.proofs.Common.{◌≡◌, ◌≤◌, ◌-◌, ◌+◌, vec_len}
use Rattle.kn_io.specs.Source.{Takes}
use Rattle.kn_io.proofs.reading.read_up_to.Given as goal

abbrev pub invariant-reading : goal.invariant-reading
invariant-reading g l = record {
  so_far : Takes (g.S.Source.left l.fn.from) l.read.items (g.S.Source.left l.from);
  bound : vec_len l.read ≤ l.most;
  same : g.S.Source.faults l.from ≡ g.S.Source.faults l.fn.from;
}

abbrev pub decreases-reading : goal.decreases-reading
decreases-reading g l = l.most + 1 - vec_len l.read
