use Rattle.std.proofs.Common.{◌≡◌, ◌≤◌, take}
use Rattle.unix_model.specs.Elf.{last_end}
use Rattle.elf_read.proofs.loads.break_start.Given as goal

abbrev pub invariant-loop-load : goal.invariant-loop-load
invariant-loop-load l = record { so_far : l.last ≡ last_end (take l.load-index l.loads); within : l.last ≤ 0x7FFE_0000 }
