-- What a ring holds, place by place, and what is left of it when bytes come or go.
use Rattle.std.proofs.Common.{◌≡◌, ℕ, ◌+◌, ◌-◌, ◌%◌, ◌<◌, ◌≤◌, ◌⊎◌, Bool, List, ◌++◌, length, take, drop, get_or, ap, ap₂, sym, ◌∙◌, arith, rules, true, false, inl, inr}
use Rattle.std.proofs.lemmas.List.{places, same_lists, length-take-le, length-drop, length-append, get_or-take, get_or-drop, get_or-append_right, get_or_append_left}
use Rattle.std.proofs.lemmas.Bool.{cases_lt}
use Rattle.std.proofs.lemmas.Bool.Decides.{nat_tests}
use Rattle.std.specs.Prelude.{nat_le, if◌then◌else◌}
use Rattle.kn_base.specs.Rows.{part_at, overwritten}
use Rattle.kn_base.proofs.RowLaws.{length-overwritten, get_or-overwritten_in, get_or-overwritten_below, get_or-overwritten_above}
use Rattle.kernel_machine.specs.Contents.{ring_in}
use Rattle.pipe_domain.specs.Rings.{ring_written}

pub length-ring : (page : List ℕ) (start size : ℕ) → length page ≡ 4096 → size ≤ 4096 → length (ring_in page start size) ≡ size
unfolding ring_in
length-ring page start size whole few = grind (arith, places)

-- the byte at a place, before the end of the page and behind it
pub ring-before : (page : List ℕ) (start size k d : ℕ) → length page ≡ 4096 → k < size → start + k < 4096 → get_or (ring_in page start size) k d ≡ get_or page (start + k) d
unfolding ring_in
ring-before page start size k d whole inside before = grind (arith, places)

pub ring-behind : (page : List ℕ) (start size k d : ℕ) → length page ≡ 4096 → size ≤ 4096 → start < 4096 → k < size → 4096 ≤ start + k → get_or (ring_in page start size) k d ≡ get_or page (start + k - 4096) d
unfolding ring_in
ring-behind page start size k d whole few low inside behind = grind (arith, places)

-- a ring is read in one piece or in two
pub ring-one : (page : List ℕ) (start size : ℕ) → length page ≡ 4096 → start + size ≤ 4096 → part_at page start size ≡ ring_in page start size
unfolding ring_in
ring-one page start size whole within = same_lists _ _ (search (rules, places)) (λ k d l. grind (arith, places))

ring-split : (page : List ℕ) (start size : ℕ) → length page ≡ 4096 → start < 4096 → size ≤ 4096 → 4096 ≤ start + size → part_at page start (4096 - start) ++ part_at page 0 (size - (4096 - start)) ≡ ring_in page start size
unfolding ring_in
ring-split page start size whole low few past = same_lists _ _ (search (rules, places)) (λ k d l. grind (arith, places))

pub ring-two : (page : List ℕ) (start size one two : ℕ) (first second : List ℕ) → length page ≡ 4096 → start < 4096 → size ≤ 4096 → 4096 - start < size → one ≡ 4096 - start → two ≡ size - (4096 - start)
    → first ≡ part_at page start one → second ≡ part_at page 0 two → first ++ second ≡ ring_in page start size
ring-two page start size one two first second whole low few past one_is two_is first_is second_is =
    ap₂ (λ (x y : List ℕ). x ++ y) (first_is ∙ ap (λ (n : ℕ). part_at page start n) one_is) (second_is ∙ ap (λ (n : ℕ). part_at page 0 n) two_is)
    ∙ ring-split page start size whole low few (omega (arith, past, low))

-- the first bytes of a ring are a shorter one
pub ring-front : (page : List ℕ) (start size less : ℕ) → less ≤ size → take less (ring_in page start size) ≡ ring_in page start less
unfolding ring_in
ring-front page start size less few = same_lists _ _ (search (rules, places)) (λ k d l. grind (arith, places))

-- ---- bytes that are written

pub written-one : (page : List ℕ) (place : ℕ) (bytes : List ℕ) → place + length bytes ≤ 4096 → ring_written page place bytes ≡ overwritten page place bytes
unfolding ring_written
written-one page place bytes within =
    let test : nat_le (place + length bytes) 4096 ≡ true = grind (arith, nat_tests) in
    ap (λ (test : Bool). if test then overwritten page place bytes else overwritten (overwritten page place (take (4096 - place) bytes)) 0 (drop (4096 - place) bytes)) test

pub written-two : (page : List ℕ) (place : ℕ) (bytes : List ℕ) → 4096 < place + length bytes → ring_written page place bytes ≡ overwritten (overwritten page place (take (4096 - place) bytes)) 0 (drop (4096 - place) bytes)
unfolding ring_written
written-two page place bytes past =
    let test : nat_le (place + length bytes) 4096 ≡ false = grind (arith, nat_tests) in
    ap (λ (test : Bool). if test then overwritten page place bytes else overwritten (overwritten page place (take (4096 - place) bytes)) 0 (drop (4096 - place) bytes)) test

module _ (page : List ℕ) (place : ℕ) (bytes : List ℕ) (whole : length page ≡ 4096) (low : place < 4096) (few : length bytes ≤ 4096) where
  first-length : 4096 < place + length bytes → length (take (4096 - place) bytes) ≡ 4096 - place
  first-length past = length-take-le (4096 - place) bytes (omega (arith, past))

  second-length : length (drop (4096 - place) bytes) ≡ length bytes - (4096 - place)
  second-length = length-drop (4096 - place) bytes

  between : 4096 < place + length bytes → length (overwritten page place (take (4096 - place) bytes)) ≡ 4096
  between past = length-overwritten page place (take (4096 - place) bytes) (omega (arith, first-length past, whole, low)) ∙ whole

  pub length-written : length (ring_written page place bytes) ≡ 4096
  length-written = elim (cases_lt 4096 (place + length bytes)) as (λ _. length (ring_written page place bytes) ≡ 4096) [
    | inl past ↦ ap length (written-two page place bytes past) ∙ length-overwritten (overwritten page place (take (4096 - place) bytes)) 0 (drop (4096 - place) bytes) (omega (arith, between past, second-length, few)) ∙ between past
    | inr within ↦ ap length (written-one page place bytes within) ∙ length-overwritten page place bytes (omega (arith, whole, within)) ∙ whole
  ]

  module _ (j d : ℕ) (inside : j < 4096) where
    -- a byte that was written before the end of the page, one behind it, and one that stays
    pub written-in : place ≤ j → j < place + length bytes → get_or (ring_written page place bytes) j d ≡ get_or bytes (j - place) d
    written-in from to = elim (cases_lt 4096 (place + length bytes)) as (λ _. get_or (ring_written page place bytes) j d ≡ get_or bytes (j - place) d) [
      | inl past ↦
          ap (λ (bytes : List ℕ). get_or bytes j d) (written-two page place bytes past)
          ∙ get_or-overwritten_above (overwritten page place (take (4096 - place) bytes)) 0 (drop (4096 - place) bytes) j d (omega (arith, between past, second-length, few)) (omega (arith, second-length, few, from))
          ∙ get_or-overwritten_in page place (take (4096 - place) bytes) j d (omega (arith, first-length past, whole, low)) from (omega (arith, first-length past, inside, low))
          ∙ get_or-take (4096 - place) bytes (j - place) d (omega (arith, inside, from))
      | inr within ↦ ap (λ (bytes : List ℕ). get_or bytes j d) (written-one page place bytes within) ∙ get_or-overwritten_in page place bytes j d (omega (arith, whole, within)) from to
    ]

    pub written-round : j + 4096 < place + length bytes → get_or (ring_written page place bytes) j d ≡ get_or bytes (j + 4096 - place) d
    written-round round =
        let past : 4096 < place + length bytes = omega (arith, round) in
        let none : j - 0 ≡ j = omega arith in
        let moved : 4096 - place + j ≡ j + 4096 - place = omega (arith, low) in
        ap (λ (bytes : List ℕ). get_or bytes j d) (written-two page place bytes past)
        ∙ get_or-overwritten_in (overwritten page place (take (4096 - place) bytes)) 0 (drop (4096 - place) bytes) j d (omega (arith, between past, second-length, few)) (omega arith) (omega (arith, second-length, round))
        ∙ ap (λ (n : ℕ). get_or (drop (4096 - place) bytes) n d) none
        ∙ get_or-drop (4096 - place) bytes j d
        ∙ ap (λ (n : ℕ). get_or bytes n d) moved

    pub written-out : (j < place) ⊎ (place + length bytes ≤ j) → place + length bytes ≤ j + 4096 → get_or (ring_written page place bytes) j d ≡ get_or page j d
    written-out apart round = elim (cases_lt 4096 (place + length bytes)) as (λ _. get_or (ring_written page place bytes) j d ≡ get_or page j d) [
      | inl past ↦
          ap (λ (bytes : List ℕ). get_or bytes j d) (written-two page place bytes past)
          ∙ get_or-overwritten_above (overwritten page place (take (4096 - place) bytes)) 0 (drop (4096 - place) bytes) j d (omega (arith, between past, second-length, few)) (omega (arith, second-length, round))
          ∙ get_or-overwritten_below page place (take (4096 - place) bytes) j d (omega (arith, first-length past, whole, low)) (omega (arith, apart, past, inside))
      | inr within ↦ ap (λ (bytes : List ℕ). get_or bytes j d) (written-one page place bytes within) ∙ beside within apart
    ] where
      beside : place + length bytes ≤ 4096 → (j < place) ⊎ (place + length bytes ≤ j) → get_or (overwritten page place bytes) j d ≡ get_or page j d
      beside within (inl below) = get_or-overwritten_below page place bytes j d (omega (arith, whole, within)) below
      beside within (inr above) = get_or-overwritten_above page place bytes j d (omega (arith, whole, within)) above

-- ---- bytes that come and go

-- bytes put behind those of a ring
module _ (page : List ℕ) (start size : ℕ) (bytes : List ℕ) (whole : length page ≡ 4096) (low : start < 4096) (fits : size + length bytes ≤ 4096) (place : ℕ) (place_is : place ≡ (start + size) % 4096) where
  put-length : length (ring_in (ring_written page place bytes) start (size + length bytes)) ≡ length (ring_in page start size ++ bytes)
  put-length =
      length-ring (ring_written page place bytes) start (size + length bytes) (length-written page place bytes whole (omega (arith, place_is)) (omega (arith, fits))) fits
      ∙ sym (length-append (ring_in page start size) bytes ∙ ap (λ (n : ℕ). n + length bytes) (length-ring page start size whole (omega (arith, fits))))

  -- a byte that was there
  put-old : (k d : ℕ) → k < size → get_or (ring_in (ring_written page place bytes) start (size + length bytes)) k d ≡ get_or (ring_in page start size) k d
  put-old k d old = elim (cases_lt (start + k) 4096) as (λ _. get_or (ring_in (ring_written page place bytes) start (size + length bytes)) k d ≡ get_or (ring_in page start size) k d) [
    | inl before ↦
        ring-before (ring_written page place bytes) start (size + length bytes) k d written (omega (arith, old)) before
        ∙ written-out page place bytes whole (omega (arith, place_is)) (omega (arith, fits)) (start + k) d before (apart-low before) (omega (arith, place_is, fits))
        ∙ sym (ring-before page start size k d whole old before)
    | inr behind ↦
        ring-behind (ring_written page place bytes) start (size + length bytes) k d written fits low (omega (arith, old)) behind
        ∙ written-out page place bytes whole (omega (arith, place_is)) (omega (arith, fits)) (start + k - 4096) d (omega (arith, fits, old, low)) (inl (omega (arith, place_is, old, behind, low, fits))) (omega (arith, place_is, fits, low, behind, old))
        ∙ sym (ring-behind page start size k d whole (omega (arith, fits)) low old behind)
  ] where
    written : length (ring_written page place bytes) ≡ 4096
    written = length-written page place bytes whole (omega (arith, place_is)) (omega (arith, fits))

    apart-low : start + k < 4096 → (start + k < place) ⊎ (place + length bytes ≤ start + k)
    apart-low before = elim (cases_lt (start + size) 4096) as (λ _. (start + k < place) ⊎ (place + length bytes ≤ start + k)) [
      | inl one ↦ inl (omega (arith, place_is, one, old))
      | inr round ↦ inr (omega (arith, place_is, round, low, fits))
    ]

  -- a byte that came
  put-new : (k d : ℕ) → size ≤ k → k < size + length bytes → get_or (ring_in (ring_written page place bytes) start (size + length bytes)) k d ≡ get_or bytes (k - size) d
  put-new k d from to = elim (cases_lt (start + k) 4096) as (λ _. get_or (ring_in (ring_written page place bytes) start (size + length bytes)) k d ≡ get_or bytes (k - size) d) [
    | inl before ↦
        let same : start + k - place ≡ k - size = omega (arith, place_is, before, from) in
        ring-before (ring_written page place bytes) start (size + length bytes) k d written to before
        ∙ written-in page place bytes whole (omega (arith, place_is)) (omega (arith, fits)) (start + k) d before (omega (arith, place_is, before, from)) (omega (arith, place_is, before, from, to))
        ∙ ap (λ (n : ℕ). get_or bytes n d) same
    | inr behind ↦ ring-behind (ring_written page place bytes) start (size + length bytes) k d written fits low to behind ∙ round behind (cases_lt (start + size) 4096)
  ] where
    written : length (ring_written page place bytes) ≡ 4096
    written = length-written page place bytes whole (omega (arith, place_is)) (omega (arith, fits))

    round : 4096 ≤ start + k → (start + size < 4096) ⊎ (4096 ≤ start + size) → get_or (ring_written page place bytes) (start + k - 4096) d ≡ get_or bytes (k - size) d
    round behind (inl one) =
        let same : start + k - 4096 + 4096 - place ≡ k - size = omega (arith, place_is, one, behind, from) in
        written-round page place bytes whole (omega (arith, place_is)) (omega (arith, fits)) (start + k - 4096) d (omega (arith, fits, to, low)) (omega (arith, place_is, one, behind, to))
        ∙ ap (λ (n : ℕ). get_or bytes n d) same
    round behind (inr two) =
        let same : start + k - 4096 - place ≡ k - size = omega (arith, place_is, two, behind, from, low, fits) in
        written-in page place bytes whole (omega (arith, place_is)) (omega (arith, fits)) (start + k - 4096) d (omega (arith, fits, to, low)) (omega (arith, place_is, two, low, fits, from)) (omega (arith, place_is, two, low, fits, to, behind))
        ∙ ap (λ (n : ℕ). get_or bytes n d) same

  pub ring-put : ring_in (ring_written page place bytes) start (size + length bytes) ≡ ring_in page start size ++ bytes
  ring-put =
      same_lists _ _ put-length
      (λ k d inside. elim (cases_lt k size) as (λ _. get_or (ring_in (ring_written page place bytes) start (size + length bytes)) k d ≡ get_or (ring_in page start size ++ bytes) k d) [
        | inl old ↦ put-old k d old ∙ sym (get_or_append_left (ring_in page start size) bytes d k (omega (arith, old, length-ring page start size whole (omega (arith, fits)))))
        | inr new ↦
            put-new k d new (omega (arith, inside, put-length, length-append (ring_in page start size) bytes, length-ring page start size whole (omega (arith, fits))))
            ∙ sym (get_or-append_right (ring_in page start size) bytes size k d (length-ring page start size whole (omega (arith, fits))) new)
      ])

-- bytes taken from the front of a ring
module _ (page : List ℕ) (start size less : ℕ) (whole : length page ≡ 4096) (low : start < 4096) (few : less ≤ size) (fits : size ≤ 4096) where
  take-length : length (ring_in page ((start + less) % 4096) (size - less)) ≡ length (drop less (ring_in page start size))
  take-length =
      length-ring page ((start + less) % 4096) (size - less) whole (omega (arith, fits))
      ∙ sym (length-drop less (ring_in page start size) ∙ ap (λ (n : ℕ). n - less) (length-ring page start size whole fits))

  take-at : (k d : ℕ) → k < size - less → get_or (ring_in page ((start + less) % 4096) (size - less)) k d ≡ get_or (ring_in page start size) (less + k) d
  take-at k d inside = elim (cases_lt ((start + less) % 4096 + k) 4096) as (λ _. get_or (ring_in page ((start + less) % 4096) (size - less)) k d ≡ get_or (ring_in page start size) (less + k) d) [
    | inl before ↦ ring-before page ((start + less) % 4096) (size - less) k d whole inside before ∙ first before (cases_lt (start + less + k) 4096)
    | inr behind ↦
        let same : (start + less) % 4096 + k - 4096 ≡ start + (less + k) - 4096 = omega (arith, low, few, fits, inside, behind) in
        ring-behind page ((start + less) % 4096) (size - less) k d whole (omega (arith, fits)) (omega arith) inside behind
        ∙ ap (λ (n : ℕ). get_or page n d) same
        ∙ sym (ring-behind page start size (less + k) d whole fits low (omega (arith, inside)) (omega (arith, low, few, fits, inside, behind)))
  ] where
    first : (start + less) % 4096 + k < 4096 → (start + less + k < 4096) ⊎ (4096 ≤ start + less + k) → get_or page ((start + less) % 4096 + k) d ≡ get_or (ring_in page start size) (less + k) d
    first before (inl one) =
        let same : (start + less) % 4096 + k ≡ start + (less + k) = omega (arith, one) in
        ap (λ (n : ℕ). get_or page n d) same ∙ sym (ring-before page start size (less + k) d whole (omega (arith, inside)) (omega (arith, one)))
    first before (inr two) =
        let same : (start + less) % 4096 + k ≡ start + (less + k) - 4096 = omega (arith, two, before, low, few, fits) in
        ap (λ (n : ℕ). get_or page n d) same ∙ sym (ring-behind page start size (less + k) d whole fits low (omega (arith, inside)) (omega (arith, two)))

  pub ring-taken : ring_in page ((start + less) % 4096) (size - less) ≡ drop less (ring_in page start size)
  ring-taken =
      same_lists _ _ take-length
      (λ k d inside. take-at k d (omega (arith, inside, length-ring page ((start + less) % 4096) (size - less) whole (omega (arith, fits)))) ∙ sym (get_or-drop less (ring_in page start size) k d))
