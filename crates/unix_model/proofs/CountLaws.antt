-- Counts of a table with one place changed, and what a memory promises after one page was mapped or unmapped.
use Rattle.std.proofs.Common.{◌≡◌, ◌≢◌, ℕ, zero, suc, ◌+◌, ◌<◌, ◌≤◌, ◌^◌, ◌/◌, ◌%◌, Option, Some, None, Bool, true, false, List, [], ◌∷◌, arith, refl, ap, ◌∙◌, inl, inr}
use Rattle.std.proofs.Math.Path.{fun_ext}
use Rattle.std.proofs.lemmas.Bool.Decides.{eqb_tells, nat_tests}
use Rattle.std.proofs.lemmas.Bool.{cases_lt}
use Rattle.std.specs.Prelude.{is_some, option_map, ◌==◌, if◌then◌else◌, ◌&&◌, nat_le, nat_lt}
use Rattle.unix_model.specs.Memory.{Memory, Page, mapped_pages, with_byte, with_bytes, page_with_byte, with_zero_pages, without_pages, zero_page}
use Rattle.unix_model.specs.Tables.{at, with_at, nothing, count_below, option_or}
use Rattle.unix_model.proofs.TableLaws.{at-with_at, at-with_at-other, with_at-same}

-- one where a test holds, else none
abbrev pub one_if : Bool → ℕ
one_if test = if test then 1 else 0

one-few : (test : Bool) → one_if test ≤ 1
one-few true = omega arith
one-few false = omega arith

-- a change past the limit
count-past : {X : Type 0} (test : X → Bool) (table : ℕ → X) (n : ℕ) (x : X) (limit : ℕ) → limit ≤ n
    → count_below (λ k. test (at (with_at table n x) k)) limit ≡ count_below (λ k. test (at table k)) limit
unfolding count_below
count-past test table n x zero past = refl
count-past test table n x (suc limit) past =
    let other : limit ≢ n = omega arith in
    let rest : limit ≤ n = omega arith in
    rw (count-past test table n x limit rest, at-with_at-other table n limit x other) refl

-- a change below the limit
pub count-with_at : {X : Type 0} (test : X → Bool) (table : ℕ → X) (n : ℕ) (x : X) (limit : ℕ) → n < limit
    → count_below (λ k. test (at (with_at table n x) k)) limit + one_if (test (at table n)) ≡ count_below (λ k. test (at table k)) limit + one_if (test x)
unfolding count_below
count-with_at test table n x zero inside = absurd (omega arith)
count-with_at test table n x (suc limit) inside =
    elim (eqb_tells limit n) as (λ _. (count_below (λ k. test (at (with_at table n x) k)) limit + one_if (test (at (with_at table n x) limit))) + one_if (test (at table n)) ≡ (count_below (λ k. test (at table k)) limit + one_if (test (at table limit))) + one_if (test x)) [
      | inl same ↦
          let past : limit ≤ n = omega (arith, same.1) in
          let here : one_if (test (at (with_at table n x) limit)) ≡ one_if (test x) = ap (λ k. one_if (test (at (with_at table n x) k))) same.1 ∙ ap (λ y. one_if (test y)) (at-with_at table n x) in
          let there : one_if (test (at table limit)) ≡ one_if (test (at table n)) = ap (λ k. one_if (test (at table k))) same.1 in
          omega (arith, count-past test table n x limit past, here, there)
      | inr apart ↦
          let less : n < limit = omega (arith, apart.1) in
          let here : one_if (test (at (with_at table n x) limit)) ≡ one_if (test (at table limit)) = ap (λ y. one_if (test y)) (at-with_at-other table n limit x apart.1) in
          omega (arith, count-with_at test table n x limit less, here)
    ]

-- a page at a number
pub mapped-with_at : (memory : Memory) (n : ℕ) (page : Option Page) → n < 2 ^ 19
    → mapped_pages (with_at memory n page) + one_if (is_some (at memory n)) ≡ mapped_pages memory + one_if (is_some page)
unfolding mapped_pages
mapped-with_at memory n page inside = count-with_at is_some memory n page (2 ^ 19) inside

-- a change past the limit counts nothing
pub mapped-past : (memory : Memory) (n : ℕ) (page : Option Page) → 2 ^ 19 ≤ n → mapped_pages (with_at memory n page) ≡ mapped_pages memory
unfolding mapped_pages
mapped-past memory n page past = count-past is_some memory n page (2 ^ 19) past

-- a page is mapped, or unmapped
pub mapped-more : (memory : Memory) (n : ℕ) (page : Page) → n < 2 ^ 19 → at memory n ≡ None → mapped_pages (with_at memory n (Some page)) ≡ mapped_pages memory + 1
mapped-more memory n page inside free =
    let none : one_if (is_some (at memory n)) ≡ 0 = ap (λ held. one_if (is_some held)) free in
    omega (arith, mapped-with_at memory n (Some page) inside, none)

pub mapped-again : (memory : Memory) (n : ℕ) (page old : Page) → n < 2 ^ 19 → at memory n ≡ Some old → mapped_pages (with_at memory n (Some page)) ≡ mapped_pages memory
mapped-again memory n page old inside there =
    let one : one_if (is_some (at memory n)) ≡ 1 = ap (λ held. one_if (is_some held)) there in
    omega (arith, mapped-with_at memory n (Some page) inside, one)

pub mapped-fewer : (memory : Memory) (n : ℕ) (old : Page) → n < 2 ^ 19 → at memory n ≡ Some old → mapped_pages (with_at memory n None) + 1 ≡ mapped_pages memory
mapped-fewer memory n old inside there =
    let one : one_if (is_some (at memory n)) ≡ 1 = ap (λ held. one_if (is_some held)) there in
    omega (arith, mapped-with_at memory n None inside, one)

-- one page more of a range that is mapped, or unmapped
in_more : (from i k : ℕ) → k ≢ i → (nat_le from k && nat_lt k (i + 1)) ≡ (nat_le from k && nat_lt k i)
in_more from i k apart = let same : nat_lt k (i + 1) ≡ nat_lt k i = grind (arith, nat_tests, apart) in ap (λ b. nat_le from k && b) same

in_here : (from i : ℕ) → from ≤ i → (nat_le from i && nat_lt i (i + 1)) ≡ true
in_here from i above = grind (arith, nat_tests)

-- a table changed on a range of places, one place more
range_at : {X : Type 0} (f : X → X) (table : ℕ → X) (from i k : ℕ) → from ≤ i
    → (if nat_le from k && nat_lt k (i + 1) then f (table k) else table k)
    ≡ (if k == i then f (table i) else (if nat_le from k && nat_lt k i then f (table k) else table k))
range_at f table from i k above =
    elim (eqb_tells k i) as (λ _. (if nat_le from k && nat_lt k (i + 1) then f (table k) else table k) ≡ (if k == i then f (table i) else (if nat_le from k && nat_lt k i then f (table k) else table k))) [
      | inl same ↦ rw (same.0) (rw same.1 (rw (in_here from i above) refl))
      | inr apart ↦ rw (apart.0) (rw (in_more from i k apart.1) refl)
    ]

-- nothing yet
range_none : {X : Type 0} (f : X → X) (table : ℕ → X) (from k : ℕ) → (if nat_le from k && nat_lt k from then f (table k) else table k) ≡ table k
range_none f table from k =
    let none : (nat_le from k && nat_lt k from) ≡ false = grind (arith, nat_tests) in rw none refl

pub with_zero_pages-step : (memory : Memory) (from i : ℕ) → from ≤ i
    → with_zero_pages memory from (i + 1) ≡ with_at (with_zero_pages memory from i) i (option_or (at memory i) (Some zero_page))
unfolding with_zero_pages with_at at
with_zero_pages-step memory from i above = fun_ext (λ k. range_at (λ page. option_or page (Some zero_page)) memory from i k above)

pub with_zero_pages-none : (memory : Memory) (from : ℕ) → with_zero_pages memory from from ≡ memory
unfolding with_zero_pages at
with_zero_pages-none memory from = fun_ext (λ k. range_none (λ page. option_or page (Some zero_page)) memory from k)

pub without_pages-step : (memory : Memory) (from i : ℕ) → from ≤ i → without_pages memory from (i + 1) ≡ with_at (without_pages memory from i) i None
unfolding without_pages with_at at
without_pages-step memory from i above = fun_ext (λ k. range_at (λ page. None) memory from i k above)

pub without_pages-none : (memory : Memory) (from : ℕ) → without_pages memory from from ≡ memory
unfolding without_pages at
without_pages-none memory from = fun_ext (λ k. range_none (λ page. None) memory from k)

-- what is there at the next place
range_past : {X : Type 0} (f : X → X) (table : ℕ → X) (from i : ℕ) → (if nat_le from i && nat_lt i i then f (table i) else table i) ≡ table i
range_past f table from i =
    let none : (nat_le from i && nat_lt i i) ≡ false = grind (arith, nat_tests) in rw none refl

pub with_zero_pages-next : (memory : Memory) (from i : ℕ) → at (with_zero_pages memory from i) i ≡ at memory i
unfolding with_zero_pages at
with_zero_pages-next memory from i = range_past (λ page. option_or page (Some zero_page)) memory from i

pub without_pages-next : (memory : Memory) (from i : ℕ) → at (without_pages memory from i) i ≡ at memory i
unfolding without_pages at
without_pages-next memory from i = range_past (λ page. None) memory from i

-- past a range that was mapped
pub with_zero_pages-past : (memory : Memory) (from to k : ℕ) → to ≤ k → at (with_zero_pages memory from to) k ≡ at memory k
unfolding with_zero_pages at
with_zero_pages-past memory from to k past =
    let none : (nat_le from k && nat_lt k to) ≡ false = grind (arith, nat_tests) in rw none refl

pub without_pages-empty : (memory : Memory) (from to : ℕ) → to ≤ from → without_pages memory from to ≡ memory
unfolding without_pages at
without_pages-empty memory from to above = fun_ext (λ k. let none : (nat_le from k && nat_lt k to) ≡ false = grind (arith, nat_tests) in rw none refl)

pub ruleset page_ranges = (with_zero_pages-step, with_zero_pages-none, without_pages-step, without_pages-none, with_zero_pages-next, without_pages-next, without_pages-empty)

pub ruleset mapped = (mapped-more, mapped-again, mapped-fewer)

-- no page is mapped
count-none : (limit : ℕ) → count_below (λ k. is_some (at (nothing {X = Page}) k)) limit ≡ 0
unfolding count_below at nothing
count-none zero = refl
count-none (suc limit) = rw (count-none limit) refl

pub mapped-nothing : mapped_pages nothing ≡ 0
unfolding mapped_pages
mapped-nothing = count-none (2 ^ 19)

pub ruleset mapped_none = (mapped-nothing)

-- no more than there are
pub count-few : (test : ℕ → Bool) (limit : ℕ) → count_below test limit ≤ limit
unfolding count_below
count-few test zero = omega arith
count-few test (suc limit) = omega (arith, count-few test limit, one-few (test limit))

pub mapped-few : (memory : Memory) → mapped_pages memory ≤ 2 ^ 19
unfolding mapped_pages
mapped-few memory = count-few (λ n. is_some (at memory n)) (2 ^ 19)

-- a byte, and bytes, that are written map nothing
byte-kept : (memory : Memory) (n place byte : ℕ) (found : Option Page) → at memory n ≡ found
    → mapped_pages (with_at memory n (option_map (page_with_byte place byte) found)) ≡ mapped_pages memory
byte-kept memory n place byte None there = ap mapped_pages (with_at-same memory n None there)
byte-kept memory n place byte (Some page) there =
    let one : one_if (is_some (at memory n)) ≡ 1 = ap (λ held. one_if (is_some held)) there in
    elim (cases_lt n (2 ^ 19)) as (λ _. mapped_pages (with_at memory n (Some (page_with_byte place byte page))) ≡ mapped_pages memory) [
      | inl inside ↦ mapped-again memory n (page_with_byte place byte page) page inside there
      | inr past ↦ mapped-past memory n (Some (page_with_byte place byte page)) past
    ]

pub mapped-with_bytes : (memory : Memory) (address : ℕ) (bytes : List ℕ) → mapped_pages (with_bytes memory address bytes) ≡ mapped_pages memory
unfolding with_bytes with_byte
mapped-with_bytes memory address [] = refl
mapped-with_bytes memory address (byte ∷ bytes) =
    mapped-with_bytes (with_byte memory address byte) (address + 1) bytes ∙ byte-kept memory (address / 4096) (address % 4096) byte (at memory (address / 4096)) refl

pub ruleset mapped_writes = (mapped-with_bytes)

pub ruleset mapped_few = (mapped-few)

-- the pages beside one
pub mapped-but : (memory : Memory) (n : ℕ) → n < 2 ^ 19 → mapped_pages (with_at memory n None) + one_if (is_some (at memory n)) ≡ mapped_pages memory
mapped-but memory n inside = omega (arith, mapped-with_at memory n None inside)

pub but-free : (memory : Memory) (n : ℕ) → n < 2 ^ 19 → is_some (at memory n) ≡ false → mapped_pages (with_at memory n None) ≡ mapped_pages memory
but-free memory n inside free =
    let none : one_if (is_some (at memory n)) ≡ 0 = ap one_if free in
    omega (arith, mapped-but memory n inside, none)

pub but-there : (memory : Memory) (n : ℕ) → n < 2 ^ 19 → is_some (at memory n) ≡ true → mapped_pages (with_at memory n None) + 1 ≡ mapped_pages memory
but-there memory n inside there =
    let one : one_if (is_some (at memory n)) ≡ 1 = ap one_if there in
    omega (arith, mapped-but memory n inside, one)

-- one more than those beside it
pub but-more : (memory : Memory) (n : ℕ) (page : Page) → n < 2 ^ 19 → mapped_pages (with_at memory n (Some page)) ≡ mapped_pages (with_at memory n None) + 1
but-more memory n page inside = omega (arith, mapped-with_at memory n (Some page) inside, mapped-but memory n inside)

pub but-few : (memory : Memory) (n : ℕ) → n < 2 ^ 19 → mapped_pages (with_at memory n None) < 2 ^ 19
but-few memory n inside = omega (arith, mapped-few (with_at memory n (Some zero_page)), but-more memory n zero_page inside)

pub ruleset mapped_but = (but-free, but-there, but-more, but-few)

-- one page more of those that are unmapped after others were mapped
next-is : (memory : Memory) (start from i : ℕ) → from ≤ i → at (without_pages (with_zero_pages memory start from) from i) i ≡ at memory i
next-is memory start from i above = without_pages-next (with_zero_pages memory start from) from i ∙ with_zero_pages-past memory start from i above

pub fewer-next : (memory : Memory) (start from i : ℕ) → from ≤ i → i < 2 ^ 19 → is_some (at memory i) ≡ true
    → mapped_pages (without_pages (with_zero_pages memory start from) from (i + 1)) + 1 ≡ mapped_pages (without_pages (with_zero_pages memory start from) from i)
fewer-next memory start from i above inside there =
    ap (λ m. mapped_pages m + 1) (without_pages-step (with_zero_pages memory start from) from i above)
    ∙ but-there (without_pages (with_zero_pages memory start from) from i) i inside (ap is_some (next-is memory start from i above) ∙ there)

pub same-next : (memory : Memory) (start from i : ℕ) → from ≤ i → i < 2 ^ 19 → is_some (at memory i) ≡ false
    → mapped_pages (without_pages (with_zero_pages memory start from) from (i + 1)) ≡ mapped_pages (without_pages (with_zero_pages memory start from) from i)
same-next memory start from i above inside free =
    ap mapped_pages (without_pages-step (with_zero_pages memory start from) from i above)
    ∙ but-free (without_pages (with_zero_pages memory start from) from i) i inside (ap is_some (next-is memory start from i above) ∙ free)

pub ruleset fewer = (fewer-next, same-next)
