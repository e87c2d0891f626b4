use Rattle.std.proofs.Common.{◌∙◌}
use Rattle.elf_read.proofs.Fields.{little_number-half}
use Rattle.elf_read.proofs.headers.half.Goals as goal

pub returns : goal.returns
returns c = c.read_u16.ensures ∙ little_number-half c.args.bytes.now c.args.place
