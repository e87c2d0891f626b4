use Rattle.std.proofs.Common.{sym}
use Rattle.tests_spaces.proofs.drops.drops_both.Goals as goal

pub drops_in_turn-requires-clause-left : goal.drops_in_turn-requires-clause-left
drops_in_turn-requires-clause-left g c = c.put.ensures.spaces.stay c.new_one-space.result.0.0 c.shared_one-copy.ensures.stays

pub drops_in_turn-requires-clause-apart : goal.drops_in_turn-requires-clause-apart
drops_in_turn-requires-clause-apart g c e = c.shared_one-copy.ensures.apart (sym e)

pub drops_in_turn-requires-else-copy_first-clause-gone : goal.drops_in_turn-requires-else-copy_first-clause-gone
drops_in_turn-requires-else-copy_first-clause-gone g c = c.put.ensures.spaces.stay c.new_one-space.result.0.0 c.shared_one-copy.ensures.stays

pub drops_in_turn-requires-else-copy_first-clause-apart : goal.drops_in_turn-requires-else-copy_first-clause-apart
drops_in_turn-requires-else-copy_first-clause-apart g c e = c.shared_one-copy.ensures.apart e
