use Rattle.std.proofs.Common.{◌≡◌, ◌≤◌, ◌-◌, vec_len}
use Rattle.kn_io.specs.Source.{Takes}
use Rattle.keynix.proofs.asm.read_front.Given as goal

abbrev pub invariant-reading : goal.invariant-reading
invariant-reading g l = record {
  so_far : Takes (g.S.Source.left l.fn.input) l.front.items (g.S.Source.left l.input);
  bound : vec_len l.front ≤ l.most;
  same : g.S.Source.faults l.input ≡ g.S.Source.faults l.fn.input;
  counted : g.S.Source.faults l.fn.input ≤ g.S.Source.faults l.input;
}

abbrev pub decreases-reading : goal.decreases-reading
decreases-reading g l = l.most - vec_len l.front
