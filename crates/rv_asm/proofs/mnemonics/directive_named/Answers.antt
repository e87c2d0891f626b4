use Rattle.std.proofs.Common.{codes, ◌≡◌, refl, arith, rules}
use Rattle.std.proofs.lemmas.Slice.Eq.{text_from_reads}
use Rattle.rv_asm.specs.Mnemonics.{directive_named}
use Rattle.rv_asm.proofs.mnemonics.directive_named.Goals as goal

pub returns-in-46-3 : goal.returns-in-46-3
unfolding directive_named
returns-in-46-3 c =
    let is : c.args.word.now ≡ codes ".ascii" = text_from_reads c.args.word.now (codes ".ascii") (omega arith) (search rules) in
    rw is refl

pub returns-in-46-4 : goal.returns-in-46-4
unfolding directive_named
returns-in-46-4 c =
    let is : c.args.word.now ≡ codes ".space" = text_from_reads c.args.word.now (codes ".space") (omega arith) (search rules) in
    rw is refl

pub returns-in-46-5 : goal.returns-in-46-5
unfolding directive_named
returns-in-46-5 c =
    let is : c.args.word.now ≡ codes ".align" = text_from_reads c.args.word.now (codes ".align") (omega arith) (search rules) in
    rw is refl
