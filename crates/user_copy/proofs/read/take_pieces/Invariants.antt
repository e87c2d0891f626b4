use Rattle.std.proofs.Common.{◌≡◌, ◌≤◌, ◌-◌, Some, length, take}
use Rattle.kernel_tables.specs.Kernel.{kernel_of}
use Rattle.unix_model.specs.Memory.{bytes_at}
use Rattle.user_copy.specs.SpaceMemory.{space_memory}
use Rattle.user_copy.proofs.read.take_pieces.Given as goal

-- so many bytes are mapped, and were read
abbrev pub invariant-loop-done : goal.invariant-loop-done
invariant-loop-done g l =
    record {
      within : l.done ≤ length l.into;
      taken : bytes_at (space_memory (kernel_of (g.T.Store.memory l.store)) l.space.0.0) l.at l.done ≡ Some (take l.done l.into);
    }

abbrev pub decreases-loop-done : goal.decreases-loop-done
decreases-loop-done g l = length l.initial.into - l.done
