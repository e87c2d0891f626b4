-- A break maps all pages from its start up.
use Rattle.std.proofs.Common.{◌≡◌, ℕ, zero, suc, ◌+◌, ◌-◌, ◌<◌, ◌≤◌, ◌^◌, ◌/◌, Option, Some, None, Bool, true, false, arith, refl, ap, inl, inr}
use Rattle.std.proofs.lemmas.Bool.{cases_lt}
use Rattle.std.proofs.lemmas.Bool.Decides.{nat_tests}
use Rattle.std.specs.Prelude.{is_some, ◌&&◌, nat_le, nat_lt}
use Rattle.unix_model.specs.Memory.{Memory, Page, mapped_pages, with_break, with_zero_pages, without_pages, zero_page}
use Rattle.unix_model.specs.Numbers.{pages_of}
use Rattle.unix_model.specs.Tables.{at, count_below, option_or}
use Rattle.unix_model.proofs.CountLaws.{one_if}

-- a range of numbers that the test holds of
count-range : (test : ℕ → Bool) (from to limit : ℕ) → ((k : ℕ) → from ≤ k → k < to → test k ≡ true) → to ≤ limit → to ≤ count_below test limit + from
unfolding count_below
count-range test from to zero holds end = omega arith
count-range test from to (suc limit) holds end =
    elim (cases_lt limit to) as (λ _. to ≤ count_below test limit + one_if (test limit) + from) [
      | inl last ↦ elim (cases_lt limit from) as (λ _. to ≤ count_below test limit + one_if (test limit) + from) [
        | inl before ↦ omega arith
        | inr inside ↦
            let here : one_if (test limit) ≡ 1 = ap one_if (holds limit (omega arith) last) in
            omega (arith, here, count-range test from limit limit (λ k above below. holds k above (omega arith)) (omega arith))
      ]
      | inr past ↦ omega (arith, count-range test from to limit holds (omega arith))
    ]

some_or : (page : Option Page) → is_some (option_or page (Some zero_page)) ≡ true
some_or None = refl
some_or (Some page) = refl

-- a page of the range is there after the break moved
break-at : (memory : Memory) (from to last page : ℕ) → from ≤ page → page < to → is_some (at (without_pages (with_zero_pages memory from to) to last) page) ≡ true
unfolding without_pages with_zero_pages at
break-at memory from to last page above below =
    let outside : (nat_le to page && nat_lt page last) ≡ false = grind (arith, nat_tests) in
    let inside : (nat_le from page && nat_lt page to) ≡ true = grind (arith, nat_tests) in
    rw outside (rw inside (some_or (memory page)))

pub break-many : (memory : Memory) (start old new : ℕ) → start ≤ new → new ≤ 0x7FFE_0000 → (new + 4095) / 4096 - start / 4096 ≤ mapped_pages (with_break memory start old new)
unfolding mapped_pages
break-many memory start old new order limit =
    omega (
      arith,
      count-range (λ n. is_some (at (with_break memory start old new) n)) (start / 4096) ((new + 4095) / 4096) (2 ^ 19)
          (λ k above below. break-at memory (start / 4096) (pages_of new) (pages_of old) k above below) (omega arith),
    )

pub ruleset breaks = (break-many)
