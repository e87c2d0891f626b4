use Rattle.std.proofs.Common.{rules}
use Rattle.rv_asm.specs.Files.{file_header}
use Rattle.rv_asm.specs.Layout.{text_start}
use Rattle.rv_asm.proofs.file.push_file_header.Goals as goal

pub returns : goal.returns
unfolding file_header text_start
returns c = search rules
