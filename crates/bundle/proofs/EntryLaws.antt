-- From the steps of reading to the next entry of a bundle.
use Rattle.std.proofs.Common.{◌≡◌, ℕ, suc, ◌+◌, ◌-◌, List, [], ◌++◌, Option, Some, None, Ok, Err, refl, sym, ap, ◌∙◌, arith}
use Rattle.bundle.specs.declared.entry.Entry.{Entry}
use Rattle.bundle.specs.declared.fault.BundleFault.{BundleFault}
use Rattle.bundle.specs.declared.fault.BundleFault.TheVariants.{At, ReadFault, NoMemory}
use Rattle.bundle.specs.declared.fault.BundleKind.{BundleKind}
use Rattle.bundle.specs.Outcomes.{Outcome, Ends, Refused, ◌>>=◌, next_line}
use Rattle.bundle.specs.Contents.{Made, made_of}
use Rattle.bundle.specs.EntryLines.{Said}
use Rattle.bundle.specs.Views.{IsEntry}
use Rattle.bundle.specs.Bundles.{Place, Named, Given, accepted, begun, named, entry_at, next_entry, given_by, bundle_from, entries_in, entry_then, no_entries}
use Rattle.bundle.specs.Streams.{ComesNext, HasEnded, IsRefused, Stops, Fails, TakesLine, FailsLine, IsWrongLine, Begins, FailsToBegin, place_behind, TakesGiven, FailsToMake, IsNotTaken, Says, SaysNothing, FailsEntry}

-- ---- the definition, step by step

entry-first : (place : Place) (bytes : List ℕ) (given : Given) → next_entry place bytes ≡ Ok given → place.room ≡ suc given.place.room
    → bundle_from place bytes ≡ entry_then given.entry (bundle_from given.place given.rest)
unfolding bundle_from entries_in
entry-first place bytes given next room = rw next (ap (λ n. entry_then given.entry (entries_in n given.place given.rest)) room)

outcome-first : (place : Place) (bytes : List ℕ) (outcome : Outcome) → next_entry place bytes ≡ Err outcome → bundle_from place bytes ≡ no_entries outcome
unfolding bundle_from entries_in
outcome-first place bytes outcome next = rw next refl

not-begun : (place : Place) (bytes : List ℕ) (outcome : Outcome) → begun place bytes ≡ Err outcome → next_entry place bytes ≡ Err outcome
unfolding next_entry
not-begun place bytes outcome fails = rw fails refl

-- the first line stands behind, and the next line was read
module _ (place now : Place) (bytes next line rest : List ℕ) (begins : begun place bytes ≡ Ok (record { place = now; bytes = next })) where
  no-line : (kind : BundleKind) → next_line next ≡ Err kind → next_entry place bytes ≡ Err (Refused kind (now.line + 1))
  unfolding next_entry entry_at named
  no-line kind fails = rw begins (rw fails refl)

  module _ (read : next_line next ≡ Ok (record { line = line; rest = rest })) where
    not-said : (outcome : Outcome) → accepted now.room now.known (now.line + 1) (record { line = line; rest = rest }) ≡ Err outcome → next_entry place bytes ≡ Err outcome
    unfolding next_entry entry_at named
    not-said outcome fails = rw begins (rw read (rw fails refl))

    module _ (entry : Named) (says : accepted now.room now.known (now.line + 1) (record { line = line; rest = rest }) ≡ Ok entry) where
      line-there : (begun place bytes >>= named) ≡ Ok entry
      unfolding named
      line-there = rw begins (rw read says)

      not-made : (outcome : Outcome) → made_of (now.line + 1) entry.said.what entry.rest ≡ Err outcome → next_entry place bytes ≡ Err outcome
      unfolding next_entry entry_at named
      not-made outcome fails = rw begins (rw read (rw says (rw fails refl)))

      is-made : (made : Made) → made_of (now.line + 1) entry.said.what entry.rest ≡ Ok made → next_entry place bytes ≡ Ok (given_by now entry.said.path made)
      unfolding next_entry entry_at named
      is-made made makes = rw begins (rw read (rw says (rw makes refl)))

-- ---- faults

refused-first : (place : Place) (bytes : List ℕ) (fault : BundleFault) → Stops fault (next_entry place bytes) → IsRefused place bytes fault
refused-first place bytes (At kind line) stops = outcome-first place bytes (Refused kind line) stops
refused-first place bytes ReadFault stops = tt
refused-first place bytes NoMemory stops = absurd stops

stops-begun : (place : Place) (bytes : List ℕ) (fault : BundleFault) → Stops fault (begun place bytes) → Stops fault (next_entry place bytes)
stops-begun place bytes (At kind line) stops = not-begun place bytes (Refused kind line) stops
stops-begun place bytes ReadFault stops = tt
stops-begun place bytes NoMemory stops = stops

pub begin-fails : (place : Place) (first : List ℕ) (old : Option (List ℕ)) (fault : BundleFault) → FailsToBegin place first old fault → FailsEntry place first old fault
begin-fails place first old fault fails = λ bytes told. refused-first place (first ++ bytes) fault (stops-begun place (first ++ bytes) fault (fails bytes told))

wrong-line : (place now : Place) (bytes next : List ℕ) (fault : BundleFault) → begun place bytes ≡ Ok (record { place = now; bytes = next }) → IsWrongLine (now.line + 1) (next_line next) fault → IsRefused place bytes fault
wrong-line place now bytes next (At kind line) begins wrong = outcome-first place bytes (Refused kind line) (no-line place now bytes next [] [] begins kind wrong.0 ∙ ap (λ n. Err (Refused kind n)) (sym wrong.1))
wrong-line place now bytes next ReadFault begins wrong = tt
wrong-line place now bytes next NoMemory begins wrong = absurd wrong

pub line-fails : (place now : Place) (first next : List ℕ) (old left : Option (List ℕ)) (fault : BundleFault) → Begins place first old now next left → FailsLine (now.line + 1) next left fault → FailsEntry place first old fault
line-fails place now first next old left fault begins fails = λ bytes told.
    let b = begins bytes told in
    wrong-line place now (first ++ bytes) (next ++ b.0) fault b.2 (fails b.0 b.1)

says-nothing : (place now : Place) (bytes next line rest : List ℕ) (fault : BundleFault) → begun place bytes ≡ Ok (record { place = now; bytes = next }) → next_line next ≡ Ok (record { line = line; rest = rest })
    → IsNotTaken fault (accepted now.room now.known (now.line + 1) (record { line = line; rest = rest })) → IsRefused place bytes fault
says-nothing place now bytes next line rest (At kind number) begins read stops = outcome-first place bytes (Refused kind number) (not-said place now bytes next line rest begins read (Refused kind number) stops)
says-nothing place now bytes next line rest ReadFault begins read stops = tt
says-nothing place now bytes next line rest NoMemory begins read stops = (stops.0, line-there place now bytes next line rest begins read stops.0 stops.1)

pub line-says-nothing : (place now : Place) (number : ℕ) (first next line : List ℕ) (old left after : Option (List ℕ)) (fault : BundleFault) → Begins place first old now next left → TakesLine next left line after
    → number ≡ now.line + 1 → SaysNothing now.room now.known number line fault → FailsEntry place first old fault
line-says-nothing place now number first next line old left after fault begins takes stands fails = λ bytes told.
    let b = begins bytes told in
    let l = takes b.0 b.1 in
    says-nothing place now (first ++ bytes) (next ++ b.0) line l.0 fault b.2 l.2 ((rw stands at fails) l.0)

pub bundle-ends : (place now : Place) (number : ℕ) (first next line : List ℕ) (old left after : Option (List ℕ)) → Begins place first old now next left → TakesLine next left line after
    → number ≡ now.line + 1 → Says now.room now.known number line None → (bytes : List ℕ) → old ≡ Some bytes → HasEnded place (first ++ bytes) after
bundle-ends place now number first next line old left after begins takes stands says = λ bytes told.
    let b = begins bytes told in
    let l = takes b.0 b.1 in
    record {
      rest = l.0;
      left_is = l.1;
      bundle = outcome-first place (first ++ bytes) (Ends l.0) (not-said place now (first ++ bytes) (next ++ b.0) line l.0 b.2 l.2 (Ends l.0) ((rw stands at says) l.0));
    }

fails-to-make : (place now : Place) (bytes next line rest : List ℕ) (fault : BundleFault) (entry : Named) → begun place bytes ≡ Ok (record { place = now; bytes = next }) → next_line next ≡ Ok (record { line = line; rest = rest })
    → accepted now.room now.known (now.line + 1) (record { line = line; rest = rest }) ≡ Ok entry → Fails fault (made_of (now.line + 1) entry.said.what entry.rest) → IsRefused place bytes fault
fails-to-make place now bytes next line rest (At kind number) entry begins read says fails =
    outcome-first place bytes (Refused kind number) (not-made place now bytes next line rest begins read entry says (Refused kind number) fails)
fails-to-make place now bytes next line rest ReadFault entry begins read says fails = tt
fails-to-make place now bytes next line rest NoMemory entry begins read says fails = (entry, line-there place now bytes next line rest begins read entry says)

pub make-fails : (place now : Place) (number : ℕ) (said : Said) (first next line : List ℕ) (old left after : Option (List ℕ)) (fault : BundleFault) → Begins place first old now next left → TakesLine next left line after
    → number ≡ now.line + 1 → Says now.room now.known number line (Some said) → FailsToMake (λ bytes. made_of number said.what bytes) after fault → FailsEntry place first old fault
make-fails place now number said first next line old left after fault begins takes stands says fails = λ bytes told.
    let b = begins bytes told in
    let l = takes b.0 b.1 in
    fails-to-make place now (first ++ bytes) (next ++ b.0) line l.0 fault (record { said = said; rest = l.0 }) b.2 l.2 ((rw stands at says) l.0) ((rw stands at fails) l.0 l.1)

-- ---- an entry

comes : (place now then : Place) (bytes next line rest : List ℕ) (said : Said) (entry : Entry) (made : Made) (last : Option (List ℕ))
    → begun place bytes ≡ Ok (record { place = now; bytes = next }) → next_line next ≡ Ok (record { line = line; rest = rest })
    → accepted now.room now.known (now.line + 1) (record { line = line; rest = rest }) ≡ Ok (record { said = said; rest = rest })
    → made_of (now.line + 1) said.what rest ≡ Ok made → last ≡ Some made.rest
    → IsEntry (record { path = said.path; content = made.content; line = now.line + 1 }) entry
    → then ≡ place_behind (record now { line = now.line + 1 }) said.path made → place.room ≡ suc (now.room - 1)
    → ComesNext place bytes entry then last
comes place now then bytes next line rest said entry made last begins read says makes left_is is_entry behind room =
    let given = is-made place now bytes next line rest begins read (record { said = said; rest = rest }) says made makes in
    record {
      described = record { path = said.path; content = made.content; line = now.line + 1 };
      rest = made.rest;
      is_entry = is_entry;
      left_is = left_is;
      bundle = rw behind (entry-first place bytes (given_by now said.path made) given room);
    }

pub entry-comes : (place now then : Place) (number : ℕ) (said : Said) (entry : Entry) (first next line : List ℕ) (old left after last : Option (List ℕ)) → Begins place first old now next left → TakesLine next left line after
    → number ≡ now.line + 1 → Says now.room now.known number line (Some said) → TakesGiven (record now { line = number }) said after entry then last
    → now.room ≡ place.room → then.room + 1 ≡ now.room
    → (bytes : List ℕ) → old ≡ Some bytes → ComesNext place (first ++ bytes) entry then last
entry-comes place now then number said entry first next line old left after last begins takes stands says gives same fewer = λ bytes told.
    let b = begins bytes told in
    let l = takes b.0 b.1 in
    let m = (rw stands at gives) l.0 l.1 in
    comes place now then (first ++ bytes) (next ++ b.0) line l.0 said entry m.0 last b.2 l.2 ((rw stands at says) l.0) m.1 m.2 m.3 m.4 (omega (arith, same, fewer))
