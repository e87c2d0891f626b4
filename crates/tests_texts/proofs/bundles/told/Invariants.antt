use Rattle.bundle.specs.Views.{IsOpen}
use Rattle.tests_texts.proofs.bundles.told.Given as goal

abbrev pub invariant-reading : goal.invariant-reading
invariant-reading g l = IsOpen l.reader
