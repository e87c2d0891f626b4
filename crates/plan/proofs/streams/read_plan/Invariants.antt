use Rattle.std.proofs.Common.{◌≡◌, ◌≤◌, ◌-◌, [], All}
use Rattle.kn_text.specs.Lines.{pending, lines_begun}
use Rattle.plan.specs.Plans.{IsInside}
use Rattle.plan.proofs.Reading.{ReadsSoFar, FirstSaid}
use Rattle.plan.proofs.streams.read_plan.Given as goal

abbrev pub invariant-reading : goal.invariant-reading
invariant-reading g l = record {
  so_far : ReadsSoFar (g.S.Source.left l.fn.from) l.spans.items (lines_begun l.reader) (g.S.Source.left l.from);
  first : FirstSaid (g.S.Source.left l.fn.from) (lines_begun l.reader) (g.S.Source.left l.from);
  inside : All IsInside l.spans.items;
  pending : pending l.reader ≡ [];
  few : lines_begun l.reader ≤ 65536;
  same : g.S.Source.faults l.from ≡ g.S.Source.faults l.fn.from;
}

abbrev pub decreases-reading : goal.decreases-reading
decreases-reading g l = 65536 - lines_begun l.reader
