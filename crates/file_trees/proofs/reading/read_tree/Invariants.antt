use Rattle.std.proofs.Common.{◌≡◌, ℕ, ◌+◌, ◌-◌, ◌≤◌, length, take}
use Rattle.kn_base.specs.Rows.{part_at}
use Rattle.kernel_tables.specs.Kernel.{kernel_of}
use Rattle.kernel_machine.specs.Contents.{file_in}
use Rattle.file_trees.specs.Trees.{tree_memory}
use Rattle.file_trees.proofs.reading.read_tree.Given as goal

-- so many bytes were read
abbrev pub invariant-loop-done : goal.invariant-loop-done
invariant-loop-done g l =
    record {
      within : l.done ≤ length l.into;
      taken : (size : ℕ) → l.at + length l.initial.into ≤ size
          → take l.done l.into ≡ part_at (file_in (tree_memory (kernel_of (g.T.Store.memory l.store)) l.root) size) l.at l.done;
    }

abbrev pub decreases-loop-done : goal.decreases-loop-done
decreases-loop-done g l = length l.initial.into - l.done
