use Rattle.std.proofs.Common.{◌≡◌, ◌≤◌, ◌+◌, ℕ, length}
use Rattle.kn_disk.specs.Images.{LeavesOnly}
use Rattle.obj_store.specs.Store.{ram_of}
use Rattle.disk_layout.specs.Saved.{raw, label_in, Machine}
use Rattle.checkpoint.specs.Sizes.{HasSizes, pages_in}
use Rattle.migrate.specs.Rounds.{IsStores, HoldsOne}
use Rattle.migrate.proofs.rounds.run.Given as goal

abbrev pub invariant-rounds : goal.invariant-rounds
invariant-rounds g l = record {
  generation : l.at.generation ≡ l.fn.at.generation + l.i;
  sizes : HasSizes (ram_of l.store);
  pages : l.pages ≡ pages_in (ram_of l.store);
  order : l.at.moved ≤ l.at.entries;
  few : l.at.entries ≤ length (ram_of l.store).blocks;
  plan : (n : ℕ) → g.M.Turns.plan l.machine (ram_of l.store).blocks n ≡ g.M.Turns.plan l.fn.machine (ram_of l.fn.store).blocks (l.i + n);
  stores : g.D.Disk.tells → IsStores (ram_of l.store) l.at.generation l.at.entries l.at.moved l.at.synced (g.D.Disk.contents l.disk) (g.D.Disk.image l.disk);
  label : g.D.Disk.tells → label_in (g.D.Disk.contents l.disk) ≡ label_in (g.D.Disk.contents l.fn.disk);
  holds : g.D.Disk.tells → raw (g.D.Disk.contents l.disk) ≡ Machine (l.fn.at.generation + l.i) (g.M.Turns.plan l.fn.machine (ram_of l.fn.store).blocks l.i);
  leaves : g.D.Disk.tells → LeavesOnly g.D.Disk.moment g.D.Disk.since (HoldsOne (g.M.Turns.plan l.fn.machine (ram_of l.fn.store).blocks) (g.D.Disk.contents l.fn.disk) l.fn.at.generation 0 l.intervals) l.fn.disk l.disk;
  same : g.D.Disk.faults l.disk ≡ g.D.Disk.faults l.fn.disk;
}
