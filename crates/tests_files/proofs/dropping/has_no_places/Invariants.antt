use Rattle.std.proofs.Common.{◌≡◌, ◌<◌, ℕ, []}
use Rattle.kernel_tables.specs.Kernel.{kernel_of}
use Rattle.unix_model.specs.Files.{places_of}
use Rattle.dir_domain.specs.Rows.{inode_seen}
use Rattle.tests_files.proofs.dropping.has_no_places.Given as goal

-- the numbers so far have none
abbrev pub invariant-loop-number : goal.invariant-loop-number
invariant-loop-number g l = (other : ℕ) → other < l.number → places_of (inode_seen (kernel_of (g.T.Store.memory l.store)) other) ≡ []
