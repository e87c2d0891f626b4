use Rattle.std.proofs.Common.{◌≡◌, None, Option, get_or, arith, ap, sym, ◌∙◌}
use Rattle.std.proofs.lemmas.List.{get_or_default}
use Rattle.std.specs.Prelude.{is_some}
use Rattle.unix_model.specs.Files.{place_inode}
use Rattle.flat_files.specs.declared.entry.Entry.{Entry}
use Rattle.flat_files.specs.EntryView.{place_of}
use Rattle.flat_files.proofs.DirectoryLaws.{name-first, name-absent}
use Rattle.flat_files.proofs.entries.first_place.Goals as goal

pub returns-then-is_named : goal.returns-then-is_named
returns-then-is_named c =
    let here : get_or c.args.places.now c.loop-i.i None ≡ c.index-places-i.result =
    get_or_default c.args.places.now c.loop-i.i None c.index-places-i.result c.loop-i-test.true ∙ sym c.index-places-i.is in
    name-first c.args.places.now c.args.name.now c.loop-i.i c.loop-i-test.true c.loop-i.invariant
    (ap (λ (place : Option Entry). is_some (place_inode c.args.name.now (place_of place))) here ∙ (sym c.is_named.ensures ∙ c.if-is_named.true))

pub returns : goal.returns
returns c = name-absent c.args.places.now c.args.name.now (λ k below. c.loop-i.invariant k (omega arith))
