-- Bytes are written over those of one place of a directory: that place is another one.
use Rattle.std.proofs.Common.{◌≡◌, ◌≢◌, ℕ, ◌+◌, ◌*◌, ◌<◌, ◌≤◌, List, length, get_or, set, ap, sym, ◌∙◌, arith, ⊎_elim}
use Rattle.std.proofs.lemmas.Bool.{cases_eq, cases_lt}
use Rattle.std.proofs.lemmas.List.{same_lists, length-set, get_or-set_same, get_or-set_other}
use Rattle.kn_base.specs.Rows.{overwritten}
use Rattle.kn_base.proofs.RowLaws.{part_at-overwritten, part_at-overwritten_above, part_at-overwritten_below}
use Rattle.kernel_machine.specs.Contents.{place_in, places_in}
use Rattle.kernel_machine.proofs.PagesHeld.{places-long}
use Rattle.dir_domain.specs.Places.{numbered_place}
use Rattle.dir_domain.proofs.FoundPlaces.{get-place-any}

module _ (file bytes : List ℕ) (number : ℕ) (long : length bytes ≡ 32) (fits : 32 * number + 32 ≤ length file) where
  abbrev after : List ℕ
  after = overwritten file (32 * number) bytes

  place-put : numbered_place after number ≡ place_in bytes
  place-put = ap place_in (part_at-overwritten file (32 * number) bytes 32 long fits)

  place-kept : (k : ℕ) → k ≢ number → numbered_place after k ≡ numbered_place file k
  place-kept k apart =
      ap place_in
      (⊎_elim
      (λ (t : k < number). part_at-overwritten_below file (32 * number) bytes (32 * k) 32 (omega (arith, long)) (omega arith))
      (λ (t : number ≤ k). part_at-overwritten_above file (32 * number) bytes (32 * k) 32 (omega (arith, long)) (omega (arith, long)))
      (cases_lt k number))

  pub places-put : (count : ℕ) → number < count → places_in after count ≡ set (places_in file count) number (place_in bytes)
  places-put count below =
      let now = places-long after count in
      let was = places-long file count in
      same_lists _ _ (now ∙ sym was ∙ sym (length-set (places_in file count) number (place_in bytes)))
      (λ k d l.
      let under : k < count = omega (arith, now) in
      get-place-any after count k d under
      ∙ ⊎_elim
      (λ (t : k ≡ number).
      ap (numbered_place after) t ∙ place-put
      ∙ sym (ap (λ i. get_or (set (places_in file count) number (place_in bytes)) i d) t ∙ get_or-set_same (places_in file count) number (place_in bytes) d (omega (arith, was))))
      (λ (apart : k ≢ number).
      place-kept k apart
      ∙ sym (get_or-set_other (places_in file count) number k (place_in bytes) d apart ∙ get-place-any file count k d under))
      (cases_eq k number))
