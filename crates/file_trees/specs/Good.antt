-- What calls on files and directories ask, and keep.
use Rattle.std.specs.Prelude.{◌≡◌}
use Rattle.kernel_tables.specs.Kernel.{Kernel}
use Rattle.unix_model.specs.Room.{promised}
use Rattle.kernel_machine.specs.Bounds.{Accounted}
use Rattle.kernel_machine.specs.Machine.{machine_of}
use Rattle.kernel_machine.specs.Standing.{Standing}
use Rattle.kernel_machine.specs.View.{view}

-- What stands within a turn, that all that is taken is accounted for, and that the promised number is what the flat state
-- promises: of the rules of the machine, those that speak of trees of files and of room.
pub record FilesGood (kernel : Kernel) : Type 0 where
  pub standing : Standing kernel
  pub accounted : Accounted kernel
  pub promises : kernel.machine.promised ≡ promised (view (machine_of kernel))
