use Rattle.rv_asm.proofs.OneFile.{one_file}
use Rattle.rv_asm.proofs.laws.one_file_law.Goals as goal

pub returns : goal.returns
returns c = one_file c.one_word_law.ensures
