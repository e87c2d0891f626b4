use Rattle.std.proofs.Common.{◌≡◌, ◌≤◌, ◌-◌, [], ◌∷◌, ◌++◌, length, take}
use Rattle.kn_io.specs.Source.{Takes}
use Rattle.unix_model.specs.Texts.{IsLine}
use Rattle.kn_text.specs.Lines.{ahead}
use Rattle.bundle.proofs.line.read_bytes.Given as goal

abbrev pub invariant-reading : goal.invariant-reading
invariant-reading g l = record {
  so_far : Takes (ahead (l.first ∷ []) (g.S.Source.left l.fn.from)) (take l.end l.bytes ++ l.byte ∷ []) (g.S.Source.left l.from);
  unbroken : IsLine (take l.end l.bytes);
  short : l.end ≤ 1024;
  whole : length l.bytes ≡ 1024;
  same : g.S.Source.faults l.from ≡ g.S.Source.faults l.fn.from;
}

abbrev pub decreases-reading : goal.decreases-reading
decreases-reading g l = 1024 - l.end
