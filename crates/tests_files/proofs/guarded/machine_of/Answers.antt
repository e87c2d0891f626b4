use Rattle.kernel_tables.specs.Kernel.{kernel_of}
use Rattle.obj_store.specs.Store.{ram_memory}
use Rattle.tests_files.proofs.Made.{first_good}
use Rattle.tests_files.proofs.guarded.machine_of.Goals as goal

pub returns-in-Ok : goal.returns-in-Ok
returns-in-Ok c = record { good = first_good c.args.pages 100 (kernel_of (ram_memory c.first_machine.new.store)) c.first_machine.ensures.first }
