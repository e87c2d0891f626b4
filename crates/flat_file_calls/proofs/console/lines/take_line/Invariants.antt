use Rattle.std.proofs.Common.{◌≡◌, ◌+◌, ℕ, List, Some, vec_len}
use Rattle.console_domain.proofs.LineLaws.{Begins}
use Rattle.flat_file_calls.proofs.console.lines.take_line.Given as goal

abbrev pub invariant-taking : goal.invariant-taking
invariant-taking g l = record {
  so_far : (bytes : List ℕ) → g.S.Source.left l.fn.from ≡ Some bytes → Begins l.count bytes l.line.items l.room (g.S.Source.left l.from);
  few : vec_len l.line + l.room ≡ l.count;
  same : g.S.Source.faults l.from ≡ g.S.Source.faults l.fn.from;
}

abbrev pub decreases-taking : goal.decreases-taking
decreases-taking g l = l.room
