use Rattle.rv_decode.proofs.OneWord.{one_word}
use Rattle.rv_decode.proofs.laws.one_word_law.Goals as goal

pub returns : goal.returns
returns c = one_word
