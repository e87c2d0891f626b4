use Rattle.bundle.proofs.SourceLaws.{front-few}
use Rattle.bundle.proofs.contents.front_fault.Goals as goal

pub refused_behind-requires-clause-line : goal.refused_behind-requires-clause-line
refused_behind-requires-clause-line c = rw c.in-Err-At.field-0-is (front-few c.args.text.now _ (rw c.in-Err-At.field-0-is at c.in-Err-At.ensures.refused))
