use Rattle.std.proofs.Common.{codes, ◌≡◌, refl, arith, rules}
use Rattle.std.proofs.lemmas.Slice.Eq.{text_from_reads}
use Rattle.rv_asm.specs.Mnemonics.{other_named}
use Rattle.rv_asm.proofs.mnemonics.other_named.Goals as goal

pub returns-in-ebreak : goal.returns-in-ebreak
unfolding other_named
returns-in-ebreak c =
    let is : c.args.word.now ≡ codes "ebreak" = text_from_reads c.args.word.now (codes "ebreak") (omega arith) (search rules) in
    rw is refl
