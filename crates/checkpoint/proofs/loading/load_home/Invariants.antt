use Rattle.std.proofs.Common.{◌≡◌, ◌≤◌, ◌<◌, ℕ, []}
use Rattle.std.specs.Prelude.{slice_index_or}
use Rattle.obj_store.specs.Store.{ram_of}
use Rattle.disk_layout.specs.Sizes.{home_block}
use Rattle.disk_layout.specs.Runs.{Still}
use Rattle.checkpoint.specs.Loading.{KeepsSizes}
use Rattle.checkpoint.proofs.loading.load_home.Given as goal

abbrev pub invariant-homes : goal.invariant-homes
invariant-homes g l = record {
  loaded : g.D.Disk.tells → (b : ℕ) → b < l.number → slice_index_or (ram_of l.store).blocks b [] ≡ home_block l.place.blocks (g.D.Disk.contents l.fn.disk) b;
  kept : KeepsSizes (ram_of l.fn.store) (ram_of l.store);
  still : Still g.D.Disk.tells g.D.Disk.contents g.D.Disk.moment g.D.Disk.image g.D.Disk.since l.fn.disk l.disk;
  same : g.D.Disk.faults l.disk ≡ g.D.Disk.faults l.fn.disk;
  counted : g.D.Disk.faults l.fn.disk ≤ g.D.Disk.faults l.disk;
}
