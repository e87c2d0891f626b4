use Rattle.std.proofs.Common.{◌≡◌, ◌≤◌, ◌-◌, ℕ, List, Some, length, take, drop}
use Rattle.console_domain.proofs.LineLaws.{Begins}
use Rattle.console_domain.proofs.lines.read_line.Given as goal

abbrev pub invariant-taking : goal.invariant-taking
invariant-taking g l = record {
  so_far : (bytes : List ℕ) → g.S.Source.left l.fn.input ≡ Some bytes → Begins (length l.fn.into) bytes (take l.count l.into) (length l.fn.into - l.count) (g.S.Source.left l.input);
  behind : (n : ℕ) → l.count ≤ n → drop n l.into ≡ drop n l.fn.into;
  fits : l.count ≤ length l.fn.into;
  same : g.S.Source.faults l.input ≡ g.S.Source.faults l.fn.input;
}

abbrev pub decreases-taking : goal.decreases-taking
decreases-taking g l = length l.initial.into - l.count
