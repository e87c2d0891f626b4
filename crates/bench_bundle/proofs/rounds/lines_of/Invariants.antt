use Rattle.std.proofs.Common.{◌-◌}
use Rattle.kn_text.specs.Lines.{lines_begun}
use Rattle.bench_bundle.proofs.rounds.lines_of.Given as goal

abbrev pub decreases-reading : goal.decreases-reading
decreases-reading l = 1000000 - lines_begun l.reader
