use Rattle.std.proofs.Common.{◌≡◌, None}
use Rattle.unix_model.specs.Tables.{least_below}
use Rattle.kernel_tables.specs.Kernel.{kernel_of, description_at}
use Rattle.file_tables.specs.Numbers.{is_free_row}
use Rattle.file_tables.proofs.free_numbers.least_free_description.Given as goal

-- no number below this one is free
abbrev pub invariant-loop-number : goal.invariant-loop-number
invariant-loop-number g l = least_below (λ number. is_free_row (description_at (kernel_of (g.T.Store.memory l.store)) number)) l.number ≡ None
