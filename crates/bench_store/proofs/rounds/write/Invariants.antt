use Rattle.std.proofs.Common.{◌≤◌, length}
use Rattle.bench_store.specs.Places.{AllSpelled}
use Rattle.bench_store.proofs.rounds.write.Given as goal

abbrev pub invariant-loop-round : goal.invariant-loop-round
invariant-loop-round g l = record {
  spelled : AllSpelled 1024 (g.T.Store.memory l.store);
  keys : 1024 ≤ length (g.T.Store.memory l.store).keys;
  pages : 64 ≤ length (g.T.Store.memory l.store).pages;
}
