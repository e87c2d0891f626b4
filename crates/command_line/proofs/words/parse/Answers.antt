use Rattle.std.specs.Prelude.{string_bytes}
use Rattle.command_line.proofs.FewWords.{few-words}
use Rattle.command_line.proofs.words.parse.Goals as goal

pub returns-in_default : goal.returns-in_default
returns-in_default c = few-words string_bytes c.args.words.now c.in_default.len_below
