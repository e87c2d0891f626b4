use Rattle.std.proofs.Common.{◌≡◌, ◌≤◌, ◌-◌, [], ◌∷◌, ◌++◌}
use Rattle.arrayvec.specs.ArrayVec.{array_vec_len}
use Rattle.kn_io.specs.Source.{Takes}
use Rattle.unix_model.specs.Texts.{IsLine}
use Rattle.kn_text.specs.Lines.{ahead}
use Rattle.kn_text.proofs.lines.read_from.Given as goal

abbrev pub invariant-reading : goal.invariant-reading
invariant-reading g l = record {
  so_far : Takes (ahead (l.first ∷ []) (g.S.Source.left l.fn.from)) (l.into.items ++ l.byte ∷ []) (g.S.Source.left l.from);
  unbroken : IsLine l.into.items;
  short : array_vec_len l.into ≤ 1024;
  same : g.S.Source.faults l.from ≡ g.S.Source.faults l.fn.from;
}

abbrev pub decreases-reading : goal.decreases-reading
decreases-reading g l = 1024 - array_vec_len l.into
