use Rattle.std.proofs.Common.{◌+◌, length, arith, refl, ◌∙◌, ap, sym}
use Rattle.obj_store.specs.Store.{ram_of}
use Rattle.disk_layout.specs.Sizes.{area_in}
use Rattle.disk_layout.proofs.RunLaws.{still-none, still-joined}
use Rattle.checkpoint.proofs.LoadLaws.{keeps-none, keeps-joined, laid-none, laid-from, laid-back, wrong-back, some-at}
use Rattle.checkpoint.proofs.loading.load_entries.Goals as goal

pub entries-init : goal.entries-init
entries-init g c = record {
  laid = λ told. laid-none c.args.place.now.blocks (area_in c.args.place.now.blocks c.args.place.now.start (g.D.Disk.contents c.args.disk.now)) (ram_of c.args.store.now).blocks;
  kept = keeps-none (ram_of c.args.store.now);
  still = still-none g.D.Disk.tells g.D.Disk.contents g.D.Disk.moment g.D.Disk.image g.D.Disk.since _;
  same = refl;
  counted = omega arith;
}

pub load_entry-requires-clause-blocks : goal.load_entry-requires-clause-blocks
load_entry-requires-clause-blocks g c = c.requires.blocks ∙ sym c.entries.invariant.kept.size

pub load_entry-requires-clause-within : goal.load_entry-requires-clause-within
load_entry-requires-clause-within g c told = omega (arith, c.requires.within told, ap length (c.entries.invariant.still.contents_same told))

pub entries-preserved : goal.entries-preserved
entries-preserved g c = record {
  laid = λ told.
      laid-back c.args.place.now.blocks c.args.place.now.start (g.D.Disk.contents c.args.disk.now) (g.D.Disk.contents c.entries.disk) (ram_of c.args.store.now).blocks (c.entries.i + 1) _ _
      (c.entries.invariant.still.contents_same told)
      (some-at c.in-Ok.next c.in-Some.least _ c.in-Some.is (c.in-Ok.ensures.laid told) (ram_of c.args.store.now).blocks
      (laid-from c.args.place.now.blocks c.args.place.now.start (g.D.Disk.contents c.args.disk.now) (g.D.Disk.contents c.entries.disk) (ram_of c.args.store.now).blocks c.entries.i _ _
      (c.entries.invariant.still.contents_same told) (c.entries.invariant.laid told)));
  kept = keeps-joined _ _ _ c.entries.invariant.kept c.load_entry.ensures.kept;
  still = still-joined g.D.Disk.tells g.D.Disk.contents g.D.Disk.moment g.D.Disk.image g.D.Disk.since _ _ _ c.entries.invariant.still c.load_entry.ensures.still;
  same = c.in-Ok.ensures.same ∙ c.entries.invariant.same;
  counted = omega (arith, c.entries.invariant.counted, c.load_entry.ensures.counted);
}

pub returns-in-None-clause-right : goal.returns-in-None-clause-right
returns-in-None-clause-right g c told =
    sym
    (wrong-back c.args.place.now.blocks c.args.place.now.start (g.D.Disk.contents c.args.disk.now) (g.D.Disk.contents c.entries.disk) (c.entries.i + 1) c.args.n
    (c.entries.invariant.still.contents_same told) (omega arith)
    (c.in-Ok.ensures.wrong told c.in-None.is (ram_of c.args.store.now).blocks
    (laid-from c.args.place.now.blocks c.args.place.now.start (g.D.Disk.contents c.args.disk.now) (g.D.Disk.contents c.entries.disk) (ram_of c.args.store.now).blocks c.entries.i _ _
    (c.entries.invariant.still.contents_same told) (c.entries.invariant.laid told))))
