use Rattle.std.proofs.Common.{◌≡◌, ◌≤◌}
use Rattle.obj_store.specs.Store.{ram_of}
use Rattle.disk_layout.specs.Sizes.{area_in}
use Rattle.disk_layout.specs.Runs.{Still}
use Rattle.checkpoint.specs.Loading.{KeepsSizes, Laid}
use Rattle.checkpoint.proofs.loading.load_entries.Given as goal

abbrev pub invariant-entries : goal.invariant-entries
invariant-entries g l = record {
  laid : g.D.Disk.tells → Laid l.place.blocks (area_in l.place.blocks l.place.start (g.D.Disk.contents l.fn.disk)) (ram_of l.fn.store).blocks l.i l.from (ram_of l.store).blocks;
  kept : KeepsSizes (ram_of l.fn.store) (ram_of l.store);
  still : Still g.D.Disk.tells g.D.Disk.contents g.D.Disk.moment g.D.Disk.image g.D.Disk.since l.fn.disk l.disk;
  same : g.D.Disk.faults l.disk ≡ g.D.Disk.faults l.fn.disk;
  counted : g.D.Disk.faults l.fn.disk ≤ g.D.Disk.faults l.disk;
}
