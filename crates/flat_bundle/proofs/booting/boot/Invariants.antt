use Rattle.std.proofs.Common.{◌≡◌}
use Rattle.std.specs.Option.{option_to_list}
use Rattle.flat_unix.specs.FlatView.{unix_of}
use Rattle.bundle.specs.Views.{IsOpen, pending, place_of}
use Rattle.flat_bundle.proofs.BootLaws.{ReadsSoFar}
use Rattle.flat_bundle.proofs.booting.boot.Given as goal

abbrev pub invariant-reading : goal.invariant-reading
invariant-reading g l = record {
  so_far : ReadsSoFar l.pages l.quantum (option_to_list l.fn.first) (g.S.Source.left l.fn.from) (unix_of l.flat) (place_of l.reader) (pending l.reader) (g.S.Source.left l.from);
  is_open : IsOpen l.reader;
  same : g.S.Source.faults l.from ≡ g.S.Source.faults l.fn.from;
}

abbrev pub decreases-reading : goal.decreases-reading
decreases-reading g l = (place_of l.reader).room
