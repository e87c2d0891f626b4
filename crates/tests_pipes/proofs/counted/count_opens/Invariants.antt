use Rattle.std.proofs.Common.{◌≡◌, ◌≤◌}
use Rattle.kernel_tables.specs.Kernel.{kernel_of}
use Rattle.kernel_machine.specs.Machine.{machine_of}
use Rattle.kernel_machine.specs.View.{descriptions_in}
use Rattle.unix_model.specs.Files.{description_names}
use Rattle.unix_model.specs.Tables.{at, count_below}
use Rattle.tests_pipes.proofs.counted.count_opens.Given as goal

abbrev pub invariant-loop-number : goal.invariant-loop-number
invariant-loop-number g l = record {
  counted : l.count ≡ count_below (λ n. description_names l.inode (at (descriptions_in (machine_of (kernel_of (g.T.Store.memory l.store)))) n)) l.number;
  few : l.count ≤ l.number;
}
