use Rattle.std.proofs.Common.{◌≡◌, length}
use Rattle.bench_store.specs.Places.{AllSpelled}
use Rattle.bench_store.proofs.rounds.fill.Given as goal

abbrev pub invariant-loop-place : goal.invariant-loop-place
invariant-loop-place g l = record {
  spelled : AllSpelled l.place (g.T.Store.memory l.store);
  keys : length (g.T.Store.memory l.store).keys ≡ length (g.T.Store.memory l.fn.store).keys;
  pages : (g.T.Store.memory l.store).pages ≡ (g.T.Store.memory l.fn.store).pages;
}
