use Rattle.std.proofs.Common.{sym}
use Rattle.flat_unix.specs.FlatView.{unix_of}
use Rattle.flat_unix.proofs.FreeTurns.{turned-free}
use Rattle.flat_unix.proofs.flat.Flat.is_free.Goals as goal

pub returns-in-Free-clause-turn : goal.returns-in-Free-clause-turn
returns-in-Free-clause-turn c = λ nothing bytes. turned-free (unix_of c.args.self.now) c.args.slot bytes (sym c.in-Free.ensures)
