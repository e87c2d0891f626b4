use Rattle.bundle.specs.Views.{IsOpen}
use Rattle.bench_bundle.proofs.rounds.entries_of.Given as goal

abbrev pub invariant-reading : goal.invariant-reading
invariant-reading l = IsOpen l.reader
