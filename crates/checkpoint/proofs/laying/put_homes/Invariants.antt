use Rattle.std.proofs.Common.{◌≡◌, ◌≤◌, ℕ, List, length}
use Rattle.kn_disk.specs.Images.{LeavesOnly}
use Rattle.obj_store.specs.Store.{ram_of}
use Rattle.checkpoint.specs.Format.{Blank, HomesLaid}
use Rattle.checkpoint.proofs.laying.put_homes.Given as goal

abbrev pub invariant-homes : goal.invariant-homes
invariant-homes g l = record {
  images : g.D.Disk.tells → (c : List ℕ) → g.D.Disk.image l.disk c → Blank c;
  leaves : g.D.Disk.tells → LeavesOnly g.D.Disk.moment g.D.Disk.since Blank l.fn.disk l.disk;
  laid : g.D.Disk.tells → HomesLaid (length (ram_of l.store).blocks) (ram_of l.store).blocks (g.D.Disk.contents l.fn.disk) (g.D.Disk.contents l.disk) l.number;
  same : g.D.Disk.faults l.disk ≡ g.D.Disk.faults l.fn.disk;
  counted : g.D.Disk.faults l.fn.disk ≤ g.D.Disk.faults l.disk;
}
