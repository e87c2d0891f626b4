use Rattle.std.proofs.Common.{arith, refl, ◌∙◌}
use Rattle.kn_disk.proofs.RunLaws.{inside-none, inside-joined}
use Rattle.checkpoint.proofs.FillLaws.{filled-none}
use Rattle.checkpoint.proofs.area.save_marked.Goals as goal

pub loop-number-init : goal.loop-number-init
loop-number-init g c = record {
  inside = inside-none g.D.Disk.moment g.D.Disk.image g.D.Disk.since _ _ _;
  size = λ told. refl;
  few = omega arith;
  marks = refl;
  same = refl;
  saved = λ told home marked. filled-none _ home _ _;
  counted = omega arith;
}

pub loop-number-preserved : goal.loop-number-preserved
loop-number-preserved g c = record {
  inside = inside-joined g.D.Disk.moment g.D.Disk.image g.D.Disk.since _ _ _ _ _ c.loop-number.invariant.inside c.save_if_marked.ensures.inside;
  size = λ told. c.in-Ok.ensures.size told ∙ c.loop-number.invariant.size told;
  few = c.in-Ok.ensures.few;
  marks = c.in-Ok.ensures.marks c.loop-number.invariant.marks;
  same = c.in-Ok.ensures.same ∙ c.loop-number.invariant.same;
  saved = λ told home marked. c.in-Ok.ensures.saves told home marked (c.loop-number.invariant.saved told home marked);
  counted = omega (arith, c.save_if_marked.ensures.counted, c.loop-number.invariant.counted);
}
