use Rattle.std.proofs.Common.{sym, ap, ◌∙◌}
use Rattle.flat_unix.specs.FlatView.{unix_of}
use Rattle.flat_unix.proofs.FreeTurns.{after-nothing, at_position, ticked-rounds}
use Rattle.flat_unix.proofs.flat.Flat.free_turns.Goals as goal

pub returns-clause-turns : goal.returns-clause-turns
returns-clause-turns c =
    ap (at_position (unix_of c.args.self.now)) c.advanced-self.ensures
    ∙ sym (ticked-rounds c.args.number (unix_of c.args.self.now) c.args.self.now.state.in_round)
    ∙ sym (after-nothing c.args.number c.args.slot (unix_of c.args.self.now) c.requires.free)

pub returns-clause-ticks : goal.returns-clause-ticks
returns-clause-ticks c =
    ap (at_position (unix_of c.args.self.now)) c.advanced-self.ensures ∙ sym (ticked-rounds c.args.number (unix_of c.args.self.now) c.args.self.now.state.in_round)
