use Rattle.std.proofs.Common.{refl, arith, ◌∙◌}
use Rattle.kn_disk.proofs.RunLaws.{leaves-none, leaves-joined}
use Rattle.migrate.proofs.MoveLaws.{moving-entry, moving-size}
use Rattle.migrate.proofs.moving.move_blocks.Goals as goal

pub moving-init : goal.moving-init
moving-init g c = record {
  leaves = λ told n base h m. leaves-none g.D.Disk.moment g.D.Disk.image g.D.Disk.since _ _;
  moved = λ told n base h m. m;
  same = refl;
}

pub move_block-requires-clause-within : goal.move_block-requires-clause-within
move_block-requires-clause-within g c told =
    let w = c.requires.moving told in moving-size _ _ _ _ _ _ _ (c.moving.invariant.moved told w.n w.base w.enough w.moving)

pub move_block-requires-clause-place : goal.move_block-requires-clause-place
move_block-requires-clause-place g c told = (c.requires.moving told).moving.place

pub move_block-requires-clause-entry : goal.move_block-requires-clause-entry
move_block-requires-clause-entry g c told =
    let w = c.requires.moving told in moving-entry _ _ _ _ _ _ _ (omega (arith, w.enough)) (c.moving.invariant.moved told w.n w.base w.enough w.moving)

pub moving-preserved : goal.moving-preserved
moving-preserved g c = record {
  leaves = λ told n base h m.
      leaves-joined g.D.Disk.moment g.D.Disk.image g.D.Disk.since _ _ _ _ (c.moving.invariant.leaves told n base h m)
      (c.move_block.ensures.leaves told n base (omega (arith, h)) (c.moving.invariant.moved told n base h m));
  moved = λ told n base h m. c.in-Ok.ensures.moved told n base (omega (arith, h)) (c.moving.invariant.moved told n base h m);
  same = c.in-Ok.ensures.same ∙ c.moving.invariant.same;
}

pub returns-in-Err-clause-leaves : goal.returns-in-Err-clause-leaves
returns-in-Err-clause-leaves g c told n base h m =
    leaves-joined g.D.Disk.moment g.D.Disk.image g.D.Disk.since _ _ _ _ (c.moving.invariant.leaves told n base h m)
    (c.move_block.ensures.leaves told n base (omega (arith, h)) (c.moving.invariant.moved told n base h m))
