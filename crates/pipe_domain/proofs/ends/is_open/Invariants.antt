use Rattle.kernel_tables.specs.Kernel.{kernel_of}
use Rattle.kernel_machine.specs.Machine.{machine_of}
use Rattle.kernel_machine.specs.View.{descriptions_in}
use Rattle.pipe_domain.proofs.EndLaws.{Looked}
use Rattle.pipe_domain.proofs.ends.is_open.Given as goal

abbrev pub invariant-loop-number : goal.invariant-loop-number
invariant-loop-number g l = Looked l.end l.pipe (descriptions_in (machine_of (kernel_of (g.T.Store.memory l.store)))) l.number l.left
