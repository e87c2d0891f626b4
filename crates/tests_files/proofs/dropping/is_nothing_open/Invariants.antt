use Rattle.std.proofs.Common.{◌≡◌, ◌<◌, ℕ, None}
use Rattle.kernel_tables.specs.Kernel.{kernel_of}
use Rattle.unix_model.specs.Tables.{at}
use Rattle.kernel_machine.specs.Machine.{machine_of}
use Rattle.kernel_machine.specs.View.{descriptions_in}
use Rattle.tests_files.proofs.dropping.is_nothing_open.Given as goal

-- the numbers so far are free
abbrev pub invariant-loop-number : goal.invariant-loop-number
invariant-loop-number g l = (other : ℕ) → other < l.number → at (descriptions_in (machine_of (kernel_of (g.T.Store.memory l.store)))) other ≡ None
