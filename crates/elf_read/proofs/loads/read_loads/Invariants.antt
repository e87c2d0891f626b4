use Rattle.std.proofs.Common.{◌≡◌, Ok}
use Rattle.unix_model.specs.Elf.{loads_of_first}
use Rattle.elf_read.proofs.loads.read_loads.Given as goal

abbrev pub invariant-loop-number : goal.invariant-loop-number
invariant-loop-number g l = Ok l.loads.items ≡ loads_of_first l.number (g.B.FileBytes.bytes l.file) l.fn.header.table
