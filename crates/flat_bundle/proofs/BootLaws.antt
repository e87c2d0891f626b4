-- A bundle so far, and the rest.
use Rattle.std.proofs.Common.{◌≡◌, ℕ, List, [], ◌++◌, Option, Some, None, Result, Ok, Err, sym, subst}
use Rattle.unix_model.specs.Boot.{empty_machine, with_init}
use Rattle.unix_model.specs.State.{Unix}
use Rattle.flat_unix.specs.declared.flat.Flat.{Flat}
use Rattle.bundle.specs.declared.entry.Entry.{Entry}
use Rattle.bundle.specs.declared.fault.BundleFault.{BundleFault}
use Rattle.bundle.specs.declared.fault.BundleFault.TheVariants.{At, ReadFault, NoMemory}
use Rattle.bundle.specs.Bundles.{Bundle, Place, bundle_from, bundle_of, entry_then, start}
use Rattle.bundle.specs.Streams.{FailsEntry, TakesEntry}
use Rattle.flat_bundle.specs.declared.fault.BootFault.{BootFault}
use Rattle.flat_bundle.specs.declared.fault.BootFault.TheVariants as fault
use Rattle.flat_bundle.specs.Booting as boot
use Rattle.flat_bundle.specs.Booting.{Booted, Boots, BootsText, Refusal, started}
use Rattle.flat_bundle.specs.Steps.{BootsAs, HasNoRoom, Loads, NotStored, Stores, fault_of}

-- whatever comes of the rest comes of the whole
abbrev pub Continues : Unix → Bundle → Unix → Bundle → Type 0
Continues unix rest first whole = (result : Result Booted Refusal) → Boots unix rest result → Boots first whole result

-- where the source's bytes are told, some are left, and so much of the bundle is still to come
abbrev pub ReadsSoFar : (pages quantum : ℕ) → (first : List ℕ) → (old : Option (List ℕ)) → Unix → Place → (pending : List ℕ) → (left : Option (List ℕ)) → Type 0
ReadsSoFar pages quantum first old unix place pending left =
    (bytes : List ℕ) → old ≡ Some bytes → (rest : List ℕ) × (left ≡ Some rest) × Continues unix (bundle_from place (pending ++ rest)) (empty_machine pages quantum) (bundle_of (first ++ bytes))

-- before the first entry
pub begun : (pages quantum : ℕ) (first : List ℕ) (left : Option (List ℕ)) (unix : Unix) (place : Place) (pending : List ℕ)
    → unix ≡ empty_machine pages quantum → place ≡ start → pending ≡ first → ReadsSoFar pages quantum first left unix place pending left
begun pages quantum first left unix place pending empty begins held = λ bytes told. (bytes, told, λ result boots. (rw (empty, begins, held) at boots))

module _ (pages quantum : ℕ) (first : List ℕ) (old left : Option (List ℕ)) (unix : Unix) (place : Place) (pending : List ℕ) (so_far : ReadsSoFar pages quantum first old unix place pending left) where
  -- an entry was stored
  pub more : (entry : Entry) (now : Place) (after : Option (List ℕ)) (next : Unix) (none : List ℕ) → TakesEntry place pending left (Some entry) now after → Stores entry unix next → none ≡ []
      → ReadsSoFar pages quantum first old next now none after
  more entry now after next none takes stores empty = λ bytes told.
      let before = so_far bytes told in
      let comes = takes before.0 before.1 in (
        comes.rest,
        comes.left_is,
        λ result boots.
            before.2 result
            (subst (λ (bundle : Bundle). Boots unix bundle result) (sym comes.bundle)
            (boot.stores comes.described stores.stored (stores.is_stored comes.described comes.is_entry) stores.next
            (subst (λ (held : List ℕ). Boots next (bundle_from now (held ++ comes.rest)) result) empty boots))),
      )

  -- there was no room for it
  pub refused : (entry : Entry) (now : Place) (after : Option (List ℕ)) (line : ℕ) → TakesEntry place pending left (Some entry) now after → HasNoRoom entry unix line
      → (bytes : List ℕ) → old ≡ Some bytes → BootsText pages quantum (first ++ bytes) (Err (boot.NoRoom line))
  refused entry now after line takes none bytes told =
      let before = so_far bytes told in
      let comes = takes before.0 before.1 in
      before.2 (Err (boot.NoRoom line))
      (subst (λ (bundle : Bundle). Boots unix bundle (Err (boot.NoRoom line))) (sym comes.bundle)
      (subst (λ (at : ℕ). Boots unix (entry_then comes.described (bundle_from now comes.rest)) (Err (boot.NoRoom at))) (none.line_is comes.described comes.is_entry)
      (boot.has_no_room comes.described none.stored (none.is_stored comes.described comes.is_entry) none.refused)))

  pub not_stored : (entry : Entry) (now : Place) (after : Option (List ℕ)) (bad : BootFault) → TakesEntry place pending left (Some entry) now after → NotStored entry unix bad
      → (bytes : List ℕ) → old ≡ Some bytes → BootsAs pages quantum (first ++ bytes) after (Err bad)
  not_stored entry now after (fault.NoRoom line) takes none bytes told = refused entry now after line takes none bytes told
  not_stored entry now after fault.NoMemory takes none bytes told = tt
  not_stored entry now after (fault.At kind line) takes none bytes told = absurd none
  not_stored entry now after (fault.Elf bad) takes none bytes told = absurd none
  not_stored entry now after fault.ReadFault takes none bytes told = absurd none

  -- the bundle is refused
  pub fails : (bad : BundleFault) (after : Option (List ℕ)) → FailsEntry place pending left bad → (bytes : List ℕ) → old ≡ Some bytes → BootsAs pages quantum (first ++ bytes) after (Err (fault_of bad))
  fails (At kind line) after failed bytes told =
      let before = so_far bytes told in
      before.2 (Err (boot.At kind line)) (subst (λ (bundle : Bundle). Boots unix bundle (Err (boot.At kind line))) (sym (failed before.0 before.1)) (boot.refuses kind line))
  fails ReadFault after failed bytes told = tt
  fails NoMemory after failed bytes told = tt

  -- the bundle ends
  ended : (now : Place) (after : Option (List ℕ)) → TakesEntry place pending left None now after → (bytes : List ℕ) → old ≡ Some bytes
      → (rest : List ℕ) × (after ≡ Some rest) × BootsText pages quantum (first ++ bytes) (started rest (with_init unix))
  ended now after takes bytes told =
      let before = so_far bytes told in
      let comes = takes before.0 before.1 in (
        comes.rest,
        comes.left_is,
        before.2 (started comes.rest (with_init unix))
            (subst (λ (bundle : Bundle). Boots unix bundle (started comes.rest (with_init unix))) (sym comes.bundle) (boot.ends comes.rest)),
      )

  pub loads : (now : Place) (after : Option (List ℕ)) (result : Result Flat BootFault) → TakesEntry place pending left None now after → Loads (with_init unix) result
      → (bytes : List ℕ) → old ≡ Some bytes → BootsAs pages quantum (first ++ bytes) after result
  loads now after (Ok flat) takes loaded bytes told =
      let end = ended now after takes bytes told in
      (end.0, end.1, subst (λ loaded. BootsText pages quantum (first ++ bytes) (started end.0 loaded)) loaded end.2)
  loads now after (Err (fault.NoRoom line)) takes loaded bytes told =
      let end = ended now after takes bytes told in
      rw loaded.1 (subst (λ loaded. BootsText pages quantum (first ++ bytes) (started end.0 loaded)) loaded.0 end.2)
  loads now after (Err (fault.Elf bad)) takes loaded bytes told =
      let end = ended now after takes bytes told in
      subst (λ loaded. BootsText pages quantum (first ++ bytes) (started end.0 loaded)) loaded end.2
  loads now after (Err (fault.At kind line)) takes loaded bytes told =
      let end = ended now after takes bytes told in
      rw (loaded.1, loaded.2) (subst (λ loaded. BootsText pages quantum (first ++ bytes) (started end.0 loaded)) loaded.0 end.2)
  loads now after (Err fault.NoMemory) takes loaded bytes told = tt
  loads now after (Err fault.ReadFault) takes loaded bytes told = absurd loaded
