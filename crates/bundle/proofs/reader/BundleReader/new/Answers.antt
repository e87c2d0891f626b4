use Rattle.std.proofs.Common.{refl}
use Rattle.bundle.specs.Lines.{lines_begun}
use Rattle.bundle.specs.Keys.{known_of}
use Rattle.bundle.proofs.BeginLaws.{starts}
use Rattle.bundle.proofs.reader.BundleReader.new.Goals as goal

pub returns-in-Ok-clause-place : goal.returns-in-Ok-clause-place
returns-in-Ok-clause-place c = starts (lines_begun c.new-in-Ok.result) 4096 (known_of c.in-Ok.known.paths) c.new-in-Ok.ensures.line refl c.in-Ok.ensures
