use Rattle.std.proofs.Common.{◌≡◌, ◌+◌, ◌-◌, ◌≤◌, [], Some, List, ℕ}
use Rattle.bundle.specs.Lines.{pending, lines_begun}
use Rattle.bundle.specs.Parts.{behind, part_of}
use Rattle.bundle.proofs.parts.read_part.Given as goal

abbrev pub invariant-reading : goal.invariant-reading
invariant-reading g l = record {
  so_far : (bytes : List ℕ) → g.S.Source.left l.fn.from ≡ Some bytes
      → (rest : List ℕ) × (g.S.Source.left l.from ≡ Some rest) × (part_of l.form l.count bytes ≡ behind l.bytes.items l.done (part_of l.form (l.count - l.done) rest));
  pending : pending l.lines ≡ [];
  line : lines_begun l.lines ≡ lines_begun l.fn.lines + l.done;
  few : l.done ≤ l.count;
  same : g.S.Source.faults l.from ≡ g.S.Source.faults l.fn.from;
}

abbrev pub decreases-reading : goal.decreases-reading
decreases-reading g l = l.count - l.done
