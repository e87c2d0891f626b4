use Rattle.std.proofs.Common.{◌∙◌, sym}
use Rattle.disk_layout.proofs.LabelLaws.{numbers-read}
use Rattle.disk_layout.proofs.labels.label_from.Goals as goal

pub returns-clause-right : goal.returns-clause-right
returns-clause-right c = numbers-read c.args.size c.word_in.result c.word_in-2.result c.args.bytes.now (sym c.is_right.ensures ∙ c.if-not-is_right.false) c.word_in.ensures c.word_in-2.ensures
