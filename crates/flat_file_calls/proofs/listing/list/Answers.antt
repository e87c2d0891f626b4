use Rattle.std.proofs.Common.{◌≡◌, ◌++◌, [], List, Option, ℕ, drop, append-nil, arith, ap, sym, ◌∙◌}
use Rattle.std.specs.Prelude.{map}
use Rattle.unix_model.specs.FileCalls.{listed_bytes, looked_at}
use Rattle.flat_files.specs.declared.entry.Entry.{Entry}
use Rattle.flat_files.specs.EntryView.{place_of}
use Rattle.flat_file_calls.proofs.ListingLaws.{drop-past, listed-end, looked-end}
use Rattle.flat_file_calls.proofs.listing.list.Goals as goal

pub returns-clause-bytes : goal.returns-clause-bytes
returns-clause-bytes c =
    let bytes : List ℕ = c.loop-place.listing.bytes.items in
    let gone : drop c.loop-place.place-index c.args.places.now ≡ [] = drop-past c.args.places.now c.loop-place.place-index c.loop-place-test.false in
    sym (append-nil bytes)
    ∙ (ap (λ (more : List ℕ). bytes ++ more) (sym (listed-end c.loop-place.listing.room))
    ∙ (ap (λ (rest : List (Option Entry)). bytes ++ listed_bytes c.loop-place.listing.room (map place_of rest)) (sym gone) ∙ c.loop-place.invariant.bytes))

pub returns-clause-looked : goal.returns-clause-looked
returns-clause-looked c =
    let gone : drop c.loop-place.place-index c.args.places.now ≡ [] = drop-past c.args.places.now c.loop-place.place-index c.loop-place-test.false in
    let none : looked_at c.loop-place.listing.room (map place_of (drop c.loop-place.place-index c.args.places.now)) ≡ 0 =
    ap (λ (rest : List (Option Entry)). looked_at c.loop-place.listing.room (map place_of rest)) gone ∙ looked-end c.loop-place.listing.room in
    omega (arith, c.loop-place.invariant.looked, none)
