use Rattle.bundle.proofs.SourceLaws.{assembled-few}
use Rattle.bundle.proofs.contents.file_of.Goals as goal

pub refused_behind-requires-clause-line : goal.refused_behind-requires-clause-line
refused_behind-requires-clause-line c = assembled-few c.args.text.now _ (rw c.in-Err-At.field-0-is at c.in-Err-At.ensures.refused)
