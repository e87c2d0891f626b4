-- What a recovery answers.
use Rattle.std.specs.Prelude.{◌≡◌, ◌≤◌, ◌+◌, ◌%◌, ℕ, false, ⊤, length, replicate}
use Rattle.kn_io.specs.Faults.{Rose}
use Rattle.kernel_tables.specs.Kernel.{first_page}
use Rattle.obj_store.specs.Ram.{Ram}
use Rattle.disk_layout.specs.Sizes.{blocks_for}
use Rattle.disk_layout.specs.Saved.{Saved, NoMachine as Nothing, Damaged as Spoilt}
use Rattle.checkpoint.specs.declared.fault.RecoverFault.{RecoverFault}
use Rattle.checkpoint.specs.declared.fault.RecoverFault.TheVariants.{NoMachine, Damaged, DiskFault, NoMemory}

-- a refusal of what the disk holds says so
abbrev pub Refuses : RecoverFault → Saved → Type 0
Refuses NoMachine saved = saved ≡ Nothing
Refuses Damaged saved = saved ≡ Spoilt
Refuses DiskFault saved = ⊤
Refuses NoMemory saved = ⊤

-- the count of faults rose where the fault is the disk's, and else it stayed
abbrev pub FaultRose : RecoverFault → ℕ → ℕ → Type 0
FaultRose NoMachine before now = now ≡ before
FaultRose Damaged before now = now ≡ before
FaultRose DiskFault before now = Rose before now
FaultRose NoMemory before now = now ≡ before

-- a store with the sizes of a machine with so many bank pages, in which nothing is marked
pub record Unmarked (pages : ℕ) (ram : Ram) : Type 0 where
  pub all_pages : ram.pages ≡ first_page pages + pages
  pub all_blocks : length ram.blocks ≡ blocks_for pages
  pub none : ram.dirty ≡ replicate (blocks_for pages) false

-- with a number of bank pages that a machine may have
pub record Recovered (ram : Ram) : Type 0 where
  pub pages : ℕ
  pub least : 64 ≤ pages
  pub most : pages ≤ 16384
  pub multiple : pages % 64 ≡ 0
  pub unmarked : Unmarked pages ram
