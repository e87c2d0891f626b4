use Rattle.std.proofs.Common.{◌≡◌, ◌≤◌, ℕ, List}
use Rattle.kn_disk.specs.Images.{LeavesOnly}
use Rattle.disk_layout.specs.Sizes.{area_in}
use Rattle.disk_layout.specs.Position.{HomeScarred}
use Rattle.migrate.specs.Moving.{Moving}
use Rattle.migrate.proofs.moving.move_blocks.Given as goal

abbrev pub invariant-moving : goal.invariant-moving
invariant-moving g l = record {
  leaves : g.D.Disk.tells → (n : ℕ) (base : List ℕ) → l.until ≤ n → Moving l.place.blocks n l.place.start base (g.D.Disk.contents l.fn.disk) (g.D.Disk.image l.fn.disk) l.from → LeavesOnly g.D.Disk.moment g.D.Disk.since (HomeScarred l.place.blocks n (area_in l.place.blocks l.place.start base) base) l.fn.disk l.disk;
  moved : g.D.Disk.tells → (n : ℕ) (base : List ℕ) → l.until ≤ n → Moving l.place.blocks n l.place.start base (g.D.Disk.contents l.fn.disk) (g.D.Disk.image l.fn.disk) l.from → Moving l.place.blocks n l.place.start base (g.D.Disk.contents l.disk) (g.D.Disk.image l.disk) l.i;
  same : g.D.Disk.faults l.disk ≡ g.D.Disk.faults l.fn.disk;
}
