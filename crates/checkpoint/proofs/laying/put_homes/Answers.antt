use Rattle.std.proofs.Common.{arith, refl, ◌∙◌}
use Rattle.kn_disk.proofs.RunLaws.{leaves-none, leaves-joined}
use Rattle.checkpoint.proofs.BlankLaws.{laid-none, laid-more}
use Rattle.checkpoint.proofs.laying.put_homes.Goals as goal

pub homes-init : goal.homes-init
homes-init g c = record {
  images = c.requires.images;
  leaves = λ told. leaves-none g.D.Disk.moment g.D.Disk.image g.D.Disk.since _ _;
  laid = λ told. laid-none _ _ _;
  same = refl;
  counted = omega arith;
}

pub homes-preserved : goal.homes-preserved
homes-preserved g c = record {
  images = c.put.ensures.images;
  leaves = λ told. leaves-joined g.D.Disk.moment g.D.Disk.image g.D.Disk.since _ _ _ _ (c.homes.invariant.leaves told) (c.put.ensures.leaves told);
  laid = λ told.
      laid-more _ _ _ _ _ c.block_of-block.result c.homes.number c.args.home (omega (arith, c.blocks-number-end.ensures, c.homes-test.true)) c.requires.home (c.requires.size told)
      c.block_of-block.ensures.size c.block_of-block.ensures.block (c.in-Ok.ensures.written told) (c.homes.invariant.laid told);
  same = c.in-Ok.ensures.same ∙ c.homes.invariant.same;
  counted = omega (arith, c.homes.invariant.counted, c.put.ensures.counted);
}

pub returns-in-Err-clause-leaves : goal.returns-in-Err-clause-leaves
returns-in-Err-clause-leaves g c told =
    leaves-joined g.D.Disk.moment g.D.Disk.image g.D.Disk.since _ _ _ _ (c.homes.invariant.leaves told) (c.put.ensures.leaves told)
