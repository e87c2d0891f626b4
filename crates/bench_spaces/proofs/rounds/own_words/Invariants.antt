use Rattle.kernel_tables.specs.Kernel.{kernel_of}
use Rattle.bench_spaces.specs.Own.{HasOwnPage}
use Rattle.bench_spaces.proofs.rounds.own_words.Given as goal

-- page 0 is own
abbrev pub invariant-loop-round : goal.invariant-loop-round
invariant-loop-round g l = HasOwnPage (kernel_of (g.T.Store.memory l.store)) l.space.0.0 l.owner
