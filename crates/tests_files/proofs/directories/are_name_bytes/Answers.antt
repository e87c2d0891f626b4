use Rattle.std.proofs.Common.{subst}
use Rattle.std.specs.Prelude.{All}
use Rattle.std.proofs.lemmas.List.{take_all}
use Rattle.std.proofs.lemmas.List.Elements.{All-more}
use Rattle.unix_model.specs.Rules.{IsNameByte}
use Rattle.tests_files.proofs.directories.are_name_bytes.Goals as goal

pub loop-byte-preserved : goal.loop-byte-preserved
loop-byte-preserved c =
    All-more IsNameByte c.args.name.now c.loop-byte.byte-index 0 c.loop-byte-test.true c.loop-byte.invariant
    (c.is_name_byte.ensures c.if-not-is_name_byte.false)

pub returns : goal.returns
returns c told = subst (All IsNameByte) (take_all c.loop-byte.byte-index c.args.name.now c.loop-byte-test.false) c.loop-byte.invariant
