use Rattle.std.proofs.Common.{◌≡◌, ◌+◌, ◌<◌, ◌/◌, ℕ, true}
use Rattle.kernel_tables.specs.Kernel.{kernel_of}
use Rattle.unix_model.specs.Memory.{is_writable}
use Rattle.user_copy.specs.SpaceMemory.{space_memory}
use Rattle.user_copy.proofs.write.are_writable.Given as goal

-- the bytes of the pages so far may be written
abbrev pub invariant-loop-page : goal.invariant-loop-page
invariant-loop-page g l = (i : ℕ) → i < l.count → (l.at + i) / 4096 < l.page → is_writable (space_memory (kernel_of (g.T.Store.memory l.store)) l.space.0.0) (l.at + i) ≡ true
