use Rattle.std.proofs.Common.{◌≡◌, ℕ, ◌<◌, ◌≤◌, false, get_or, length}
use Rattle.bundle.specs.EntryLines.{is_space}
use Rattle.bundle.proofs.said.last_space.Given as goal

abbrev pub invariant-looking : goal.invariant-looking
invariant-looking l = record {
  inside : l.end ≤ length l.text;
  none : (k : ℕ) → l.end ≤ k → k < length l.text → is_space (get_or l.text k 0) ≡ false;
}

abbrev pub decreases-looking : goal.decreases-looking
decreases-looking l = l.end
