use Rattle.std.proofs.Common.{◌≡◌, ◌≤◌, ◌+◌, ◌-◌, length}
use Rattle.kn_disk.specs.Images.{Inside}
use Rattle.disk_layout.specs.Sizes.{contents_from, area_size, area_in}
use Rattle.checkpoint.specs.Filling.{Saves, marks_below}
use Rattle.obj_store.specs.Store.{ram_of}
use Rattle.checkpoint.proofs.area.save_marked.Given as goal

abbrev pub invariant-loop-number : goal.invariant-loop-number
invariant-loop-number g l = record {
  inside : Inside g.D.Disk.moment g.D.Disk.image g.D.Disk.since (l.place.start + 1) (area_size l.place.blocks - 1) l.fn.disk l.disk;
  size : g.D.Disk.tells → length (g.D.Disk.contents l.disk) ≡ length (g.D.Disk.contents l.fn.disk);
  few : l.n ≤ l.number;
  marks : l.n ≡ marks_below (ram_of l.store) l.number;
  same : g.D.Disk.faults l.disk ≡ g.D.Disk.faults l.fn.disk;
  saved : g.D.Disk.tells → Saves (contents_from l.place.blocks) (area_in l.place.blocks l.place.start (g.D.Disk.contents l.disk)) (ram_of l.store) l.n l.number;
  counted : g.D.Disk.faults l.fn.disk ≤ g.D.Disk.faults l.disk;
}
