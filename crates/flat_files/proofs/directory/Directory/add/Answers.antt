use Rattle.std.proofs.Common.{◌≡◌, ◌<◌, false, arith, length, sym, subst, ◌∙◌}
use Rattle.std.proofs.lemmas.Bool.Decides.{nat_tests}
use Rattle.std.specs.Prelude.{nat_le}
use Rattle.flat_files.specs.Places.{HasNoHole}
use Rattle.flat_files.proofs.DirectoryLaws.{full-without}
use Rattle.flat_files.proofs.directory.Directory.add.Goals as goal

pub invariant_of-self-in-None-clause-few : goal.invariant_of-self-in-None-clause-few
invariant_of-self-in-None-clause-few c =
    let none : HasNoHole c.args.self.now.places.items = subst HasNoHole c.deref.ensures.value c.in-None.ensures in
    let room : nat_le 1024 (length c.args.self.now.places.items) ≡ false = sym (full-without c.args.self.now.places.items none) ∙ c.requires in
    let less : length c.args.self.now.places.items < 1024 = grind (arith, nat_tests) in
    omega arith
