use Rattle.std.proofs.Common.{◌∙◌}
use Rattle.elf_read.proofs.Fields.{little_number-word}
use Rattle.elf_read.proofs.headers.word.Goals as goal

pub returns : goal.returns
returns c = c.read_u32.ensures ∙ little_number-word c.args.bytes.now c.args.place
