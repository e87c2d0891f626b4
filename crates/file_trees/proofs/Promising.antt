-- Promised pages are no part of the flat state, and none of a tree.
use Rattle.std.proofs.Common.{◌≡◌, ℕ, zero, suc, refl}
use Rattle.kernel_tables.specs.Kernel.{Kernel}
use Rattle.kernel_machine.specs.Machine.{machine_of, inodes_of, descriptions_of}
use Rattle.kernel_machine.specs.View.{view, file_memory, process_in, processes_in, memory_in, inode_in, inodes_in, descriptions_in}
use Rattle.file_trees.specs.Trees.{tree_memory}

-- the tables with another number of promised pages
abbrev pub promising : Kernel → ℕ → Kernel
promising kernel pages = record kernel { machine = record kernel.machine { promised = pages } }

pub promise_unseen : (kernel : Kernel) (pages : ℕ) → view (machine_of (promising kernel pages)) ≡ view (machine_of kernel)
unfolding view machine_of processes_in process_in memory_in inodes_in descriptions_in inode_in file_memory inodes_of descriptions_of
promise_unseen kernel pages = refl

pub same_tree : (kernel : Kernel) (pages root : ℕ) → tree_memory (promising kernel pages) root ≡ tree_memory kernel root
unfolding file_memory memory_in machine_of
same_tree kernel pages zero = refl
same_tree kernel pages (suc root) = refl
