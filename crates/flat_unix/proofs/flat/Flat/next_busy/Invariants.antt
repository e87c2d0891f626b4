use Rattle.std.proofs.Common.{◌≡◌, ℕ, ◌-◌, ◌<◌, ◌≤◌, true}
use Rattle.unix_model.specs.Tables.{at}
use Rattle.flat_unix.specs.FlatView.{unix_of}
use Rattle.flat_unix.specs.FreeTurns.{has_nothing_to_do}
use Rattle.flat_unix.proofs.flat.Flat.next_busy.Given as goal

abbrev pub invariant-slots : goal.invariant-slots
invariant-slots l = record {
  above : l.slot ≤ l.next;
  inside : l.next ≤ 64;
  free : (k : ℕ) → l.slot ≤ k → k < l.next → has_nothing_to_do (at (unix_of l.self).processes k) ≡ true;
}

abbrev pub decreases-slots : goal.decreases-slots
decreases-slots l = 64 - l.next
