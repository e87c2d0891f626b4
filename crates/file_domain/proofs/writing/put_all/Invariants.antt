use Rattle.std.proofs.Common.{◌-◌, ◌≤◌, length, take}
use Rattle.kernel_tables.specs.Kernel.{kernel_of}
use Rattle.file_domain.specs.Effects.{PutsAt}
use Rattle.file_domain.proofs.writing.put_all.Given as goal

-- so many bytes are written
abbrev pub invariant-loop-done : goal.invariant-loop-done
invariant-loop-done g l =
    record {
      within : l.done ≤ length l.from;
      put : PutsAt (kernel_of (g.T.Store.memory l.initial.store)) (kernel_of (g.T.Store.memory l.store)) l.file l.at (take l.done l.from);
      keeps : g.T.Store.keeps l.initial.store l.store;
    }

abbrev pub decreases-loop-done : goal.decreases-loop-done
decreases-loop-done g l = length l.from - l.done
