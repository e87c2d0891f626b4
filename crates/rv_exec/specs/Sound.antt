-- What holds of registers at every time.
use Rattle.std.specs.Prelude.{◌≡◌, ◌%◌, slice_index}
use Rattle.unix_model.specs.declared.instructions.Regs.{Regs}

-- x0 is 0, and the next instruction's address is a multiple of 4
pub record IsSound (regs : Regs) : Type 0 where
  pub x0_is_zero : slice_index regs.x 0 ≡ 0
  pub pc_is_aligned : regs.pc % 4 ≡ 0
