use Rattle.std.proofs.Common.{◌≡◌, sym, subst, ◌∙◌, ap, List, Option, length, arith}
use Rattle.std.specs.Prelude.{nat_le}
use Rattle.flat_files.specs.declared.entry.Entry.{Entry}
use Rattle.flat_files.specs.Places.{HasNoHole, IsFirstHole}
use Rattle.flat_files.proofs.DirectoryLaws.{full-without, full-never}
use Rattle.flat_files.proofs.directory.Directory.is_full.Goals as goal

pub returns-in-Some : goal.returns-in-Some
returns-in-Some c = sym (full-never c.args.self.now.places.items c.in-Some.field-0 (subst (λ (places : List (Option Entry)). IsFirstHole places c.in-Some.field-0) c.deref.ensures.value c.in-Some.ensures))

pub returns-in-None : goal.returns-in-None
returns-in-None c =
    let same : c.len.result ≡ length c.args.self.now.places.items = omega arith in
    ap (nat_le 1024) same ∙ sym (full-without c.args.self.now.places.items (subst HasNoHole c.deref.ensures.value c.in-None.ensures))
