use Rattle.std.proofs.Common.{length, arith, refl, ◌∙◌, ap, sym}
use Rattle.disk_layout.proofs.RunLaws.{still-none, still-joined}
use Rattle.obj_store.specs.Store.{ram_of}
use Rattle.checkpoint.proofs.LoadLaws.{keeps-none, keeps-joined, loaded-more, loaded-all}
use Rattle.checkpoint.proofs.loading.load_home.Goals as goal

pub homes-init : goal.homes-init
homes-init g c = record {
  loaded = λ told b h. absurd (omega arith);
  kept = keeps-none (ram_of c.args.store.now);
  still = still-none g.D.Disk.tells g.D.Disk.contents g.D.Disk.moment g.D.Disk.image g.D.Disk.since _;
  same = refl;
  counted = omega arith;
}

pub load_home_block-requires-clause-blocks : goal.load_home_block-requires-clause-blocks
load_home_block-requires-clause-blocks g c = c.requires.blocks ∙ sym c.homes.invariant.kept.size

pub load_home_block-requires-clause-size : goal.load_home_block-requires-clause-size
load_home_block-requires-clause-size g c told = ap length (c.homes.invariant.still.contents_same told) ∙ c.requires.size told

pub homes-preserved : goal.homes-preserved
homes-preserved g c = record {
  loaded = λ told.
      loaded-more c.args.place.now.blocks c.homes.number (g.D.Disk.contents c.args.disk.now) (g.D.Disk.contents c.homes.disk) (ram_of c.homes.store) (ram_of c.load_home_block.new.store)
      (omega (arith, c.requires.blocks, c.homes.invariant.kept.size, c.homes-test.true)) (c.homes.invariant.still.contents_same told) (c.in-Ok.ensures.loaded told) (c.homes.invariant.loaded told);
  kept = keeps-joined _ _ _ c.homes.invariant.kept c.load_home_block.ensures.kept;
  still = still-joined g.D.Disk.tells g.D.Disk.contents g.D.Disk.moment g.D.Disk.image g.D.Disk.since _ _ _ c.homes.invariant.still c.load_home_block.ensures.still;
  same = c.in-Ok.ensures.same ∙ c.homes.invariant.same;
  counted = omega (arith, c.homes.invariant.counted, c.load_home_block.ensures.counted);
}

pub returns-in-Err-clause-kept : goal.returns-in-Err-clause-kept
returns-in-Err-clause-kept g c = keeps-joined _ _ _ c.homes.invariant.kept c.load_home_block.ensures.kept

pub returns-in-Err-clause-still : goal.returns-in-Err-clause-still
returns-in-Err-clause-still g c = still-joined g.D.Disk.tells g.D.Disk.contents g.D.Disk.moment g.D.Disk.image g.D.Disk.since _ _ _ c.homes.invariant.still c.load_home_block.ensures.still

pub returns-clause-loaded : goal.returns-clause-loaded
returns-clause-loaded g c told =
    loaded-all c.args.place.now.blocks (g.D.Disk.contents c.args.disk.now) (ram_of c.homes.store)
    (c.requires.blocks ∙ sym c.homes.invariant.kept.size)
    (λ b h. c.homes.invariant.loaded told b (omega arith))
