-- Loads, one more at a time.
use Rattle.std.proofs.Common.{◌≡◌, ◌⊎◌, ℕ, zero, suc, ◌+◌, ◌/◌, ◌<◌, ◌≤◌, ◌^◌, [], ◌∷◌, List, length, take, get_or, Bool, true, false, Option, Some, None, arith, refl, sym, ap, ◌∙◌, inl, inr}
use Rattle.std.proofs.Math.Bool.{or_assoc, or-false}
use Rattle.std.proofs.Math.Path.{fun_ext}
use Rattle.std.proofs.lemmas.Bool.Decides.{eqb_tells, nat_tests}
use Rattle.std.proofs.lemmas.List.{take_more}
use Rattle.std.proofs.lemmas.List.Folds.{list_any-append, list_any_at, list_any_more}
use Rattle.std.specs.List.{list_any}
use Rattle.std.specs.Prelude.{◌||◌, is_some, if◌then◌else◌}
use Rattle.unix_model.specs.declared.elf.Load.{Load}
use Rattle.unix_model.specs.Loading.{image, image_byte, in_stack, page_mapped, stack_bytes, stack_pointer, touches}
use Rattle.unix_model.specs.Memory.{Memory, Page, mapped_pages}
use Rattle.unix_model.specs.Tables.{at, with_at, nothing, count_below}
use Rattle.unix_model.proofs.CountLaws.{mapped-more}
use Rattle.unix_model.proofs.TableLaws.{at-with_at, at-with_at-other}
use Rattle.flat_memory.specs.Stacked.{stacked_byte, stacked_image, stacked_page, AreLoaded, AreMapped, ArePages, HasPages, IsLoaded, IsPart, Keeps}

-- one load more, beside a test that is made before
pub any_load-step : (before : Bool) (test : Load → Bool) (loads : List Load) (i : ℕ) (d : Load) → i < length loads
    → (before || list_any test (take (i + 1) loads)) ≡ ((before || list_any test (take i loads)) || test (get_or loads i d))
any_load-step before test loads i d inside =
    rw (take_more loads i d inside, list_any-append test (take i loads) (get_or loads i d ∷ []), or-false (test (get_or loads i d)))
    (sym (or_assoc before (list_any test (take i loads)) (test (get_or loads i d))))

-- none of no load
pub any_load-none : (before : Bool) (test : Load → Bool) (loads : List Load) → (before || list_any test (take 0 loads)) ≡ before
any_load-none before test loads = or-false before

pub ruleset any_load = (any_load-step, any_load-none)

-- ---- a part of a memory

-- one page more of the whole
pub part-more : (part whole : Memory) (n : ℕ) (page : Option Page) → IsPart part whole → at whole n ≡ page → IsPart (with_at part n page) whole
unfolding IsPart
part-more part whole n page is_part here = λ k.
    elim (eqb_tells k n) as (λ _. (at (with_at part n page) k ≡ None) ⊎ (at (with_at part n page) k ≡ at whole k)) [
      | inl same ↦ inr (ap (at (with_at part n page)) same.1 ∙ (at-with_at part n page ∙ (sym here ∙ ap (at whole) (sym same.1))))
      | inr apart ↦ elim (is_part k) as (λ _. (at (with_at part n page) k ≡ None) ⊎ (at (with_at part n page) k ≡ at whole k)) [
        | inl free ↦ inl (at-with_at-other part n k page apart.1 ∙ free)
        | inr held ↦ inr (at-with_at-other part n k page apart.1 ∙ held)
      ]
    ]

pub keeps-same : (memory : Memory) → Keeps memory memory
unfolding Keeps
keeps-same memory = λ k there. there

pub keeps-then : (first second third : Memory) → Keeps first second → Keeps second third → Keeps first third
unfolding Keeps
keeps-then first second third one two = λ k there. two k (one k there)

pub keeps-more : (memory : Memory) (n : ℕ) (page : Page) → Keeps memory (with_at memory n (Some page))
unfolding Keeps
keeps-more memory n page = λ k there.
    elim (eqb_tells k n) as (λ _. is_some (at (with_at memory n (Some page)) k) ≡ true) [
      | inl same ↦ ap (λ m. is_some (at (with_at memory n (Some page)) m)) same.1 ∙ ap is_some (at-with_at memory n (Some page))
      | inr apart ↦ ap is_some (at-with_at-other memory n k (Some page) apart.1) ∙ there
    ]

-- what the whole has at a page that is mapped
pub whole-at : (file : List ℕ) (loads : List Load) (pointer : ℕ) (stack : List ℕ) (page : ℕ) → page_mapped loads page ≡ true
    → at (stacked_image file loads pointer stack) page ≡ Some (stacked_page file loads pointer stack page)
unfolding stacked_image at
whole-at file loads pointer stack page mapped = rw mapped refl

-- a part counts no more than the whole
test-fewer : (part whole : Option Page) → (part ≡ None) ⊎ (part ≡ whole) → (if is_some part then 1 else 0) ≤ (if is_some whole then 1 else 0)
test-fewer None whole is = omega arith
test-fewer (Some page) None is = elim is as (λ _. 1 ≤ 0) [ inl free ↦ absurd (cc) | inr same ↦ absurd (cc) ]
test-fewer (Some page) (Some other) is = omega arith

count-fewer : (part whole : Memory) (limit : ℕ) → ((k : ℕ) → (at part k ≡ None) ⊎ (at part k ≡ at whole k))
    → count_below (λ k. is_some (at part k)) limit ≤ count_below (λ k. is_some (at whole k)) limit
unfolding count_below
count-fewer part whole zero is_part = omega arith
count-fewer part whole (suc limit) is_part =
    omega (arith, count-fewer part whole limit is_part, test-fewer (at part limit) (at whole limit) (is_part limit))

pub part-fewer : (part whole : Memory) → IsPart part whole → mapped_pages part ≤ mapped_pages whole
unfolding IsPart mapped_pages
part-fewer part whole is_part = count-fewer part whole (2 ^ 19) is_part

-- a part that lacks a page counts less
pub part-less : (part whole : Memory) (n : ℕ) (page : Page) → IsPart part whole → n < 2 ^ 19 → at whole n ≡ Some page → at part n ≡ None
    → mapped_pages part < mapped_pages whole
part-less part whole n page is_part inside there free =
    omega (arith, part-fewer (with_at part n (Some page)) whole (part-more part whole n (Some page) is_part there), mapped-more part n page inside free)

pub none-of : (page : Option Page) → is_some page ≡ false → page ≡ None
none-of None e = refl
none-of (Some page) e = absurd (cc)

-- no page of a range yet, and one more
pub mapped-none : (memory : Memory) (from : ℕ) → AreMapped memory from from
unfolding AreMapped
mapped-none memory from = λ page above below. absurd (omega arith)

pub mapped-next : (before after : Memory) (from n : ℕ) → AreMapped before from n → Keeps before after → is_some (at after n) ≡ true → AreMapped after from (n + 1)
unfolding AreMapped Keeps
mapped-next before after from n mapped keeps there = λ page above below.
    elim (eqb_tells page n) as (λ _. is_some (at after page) ≡ true) [
      | inl same ↦ ap (λ k. is_some (at after k)) same.1 ∙ there
      | inr apart ↦ let less : page < n = omega (arith, apart.1) in keeps page (mapped page above less)
    ]

pub pages-at : (loads : List Load) (from to page : ℕ) → ArePages loads from to → from ≤ page → page < to → page_mapped loads page ≡ true
unfolding ArePages
pages-at loads from to page pages above below = pages page above below

pub mapped-all : (memory : Memory) (from n to : ℕ) → AreMapped memory from n → to ≤ n → AreMapped memory from to
unfolding AreMapped
mapped-all memory from n to mapped past = λ page above below. mapped page above (omega arith)

-- ---- the pages of one load

-- a load has bytes in these pages alone
pub touched-from : (page : ℕ) (load : Load) → touches page load ≡ true → load.at / 4096 ≤ page
touched-from page load touched = grind (arith, nat_tests)

pub touched-to : (page : ℕ) (load : Load) → touches page load ≡ true → page < (load.at + load.memory_bytes + 4095) / 4096
touched-to page load touched = grind (arith, nat_tests)

pub touched-in : (page : ℕ) (load : Load) → 0 < load.memory_bytes → load.at / 4096 ≤ page → page < (load.at + load.memory_bytes + 4095) / 4096 → touches page load ≡ true
touched-in page load some above below = grind (arith, nat_tests)

-- the range of a load's pages is of pages that the program has
pub range-pages : (loads : List Load) (load : Load) → 0 < load.memory_bytes → HasPages loads load → ArePages loads (load.at / 4096) ((load.at + load.memory_bytes + 4095) / 4096)
unfolding HasPages ArePages
range-pages loads load some pages = λ page above below. pages page (touched-in page load some above below)

pub range-loaded : (memory : Memory) (load : Load) → AreMapped memory (load.at / 4096) ((load.at + load.memory_bytes + 4095) / 4096) → IsLoaded memory load
unfolding AreMapped IsLoaded
range-loaded memory load mapped = λ page touched. mapped page (touched-from page load touched) (touched-to page load touched)

-- the program has the pages of its loads
or-right : (a b : Bool) → b ≡ true → (a || b) ≡ true
or-right true b e = refl
or-right false b e = e

pub pages-of-load : (loads : List Load) (i : ℕ) (d : Load) → i < length loads → HasPages loads (get_or loads i d)
unfolding HasPages
pages-of-load loads i d inside = λ page touched. or-right (in_stack page) (list_any (touches page) loads) (list_any_at (touches page) loads i d inside touched)

-- none is loaded yet, and one more
pub loaded-none : (memory : Memory) → AreLoaded memory []
unfolding AreLoaded
loaded-none memory = λ page touched. absurd (cc)

loaded_either : (before after : Memory) (load : Load) (page : ℕ) (earlier here : Bool) → (earlier ≡ true → is_some (at after page) ≡ true) → (here ≡ true → is_some (at after page) ≡ true)
    → (earlier || here) ≡ true → is_some (at after page) ≡ true
loaded_either before after load page true here first second e = first refl
loaded_either before after load page false here first second e = second e

pub loaded-next : (before after : Memory) (loads : List Load) (i : ℕ) (d : Load) → i < length loads → AreLoaded before (take i loads) → Keeps before after
    → IsLoaded after (get_or loads i d) → AreLoaded after (take (i + 1) loads)
unfolding AreLoaded IsLoaded Keeps
loaded-next before after loads i d inside loaded keeps here = λ page touched.
    loaded_either before after (get_or loads i d) page (list_any (touches page) (take i loads)) (touches page (get_or loads i d)) (λ e. keeps page (loaded page e)) (here page)
    (sym (list_any_more (touches page) loads i d inside) ∙ touched)

-- the pages of the stack
pub stack-pages : (loads : List Load) → ArePages loads 0x7_FFF0 0x8_0000
unfolding ArePages
stack-pages loads = λ page above below.
    let here : in_stack page ≡ true = grind (arith, nat_tests) in rw here refl

-- a part that has each page is the whole
whole_page : (mapped : Bool) (part : Option Page) (page : Page) → (part ≡ None) ⊎ (part ≡ (if mapped then Some page else None)) → (mapped ≡ true → is_some part ≡ true)
    → part ≡ (if mapped then Some page else None)
whole_page true part page is there = elim is as (λ _. part ≡ Some page) [ inl free ↦ (let some : is_some part ≡ true = there refl in let none : is_some part ≡ false = ap is_some free in absurd (cc)) | inr same ↦ same ]
whole_page false part page is there = elim is as (λ _. part ≡ None) [ inl free ↦ free | inr same ↦ same ]

page_there : (stack loaded : Bool) (page : Option Page) → (stack ≡ true → is_some page ≡ true) → (loaded ≡ true → is_some page ≡ true) → (stack || loaded) ≡ true → is_some page ≡ true
page_there true loaded page first second e = first refl
page_there false loaded page first second e = second e

stack-range : (page : ℕ) → in_stack page ≡ true → (0x7_FFF0 ≤ page) × (page < 0x8_0000)
stack-range page here = (grind (arith, nat_tests), grind (arith, nat_tests))

pub whole-is : (part : Memory) (file : List ℕ) (loads : List Load) (pointer : ℕ) (stack : List ℕ) → IsPart part (stacked_image file loads pointer stack)
    → AreLoaded part loads → AreMapped part 0x7_FFF0 0x8_0000 → part ≡ stacked_image file loads pointer stack
unfolding IsPart AreLoaded AreMapped stacked_image at
whole-is part file loads pointer stack is_part loaded mapped = fun_ext (λ page.
    whole_page (page_mapped loads page) (part page) (stacked_page file loads pointer stack page) (is_part page)
    (page_there (in_stack page) (list_any (touches page) loads) (part page) (λ here. mapped page (stack-range page here).0 (stack-range page here).1) (loaded page)))

pub loaded-kept : (before after : Memory) (loads : List Load) → AreLoaded before loads → Keeps before after → AreLoaded after loads
unfolding AreLoaded Keeps
loaded-kept before after loads loaded keeps = λ page touched. keeps page (loaded page touched)

-- nothing is part of all
pub part-nothing : (whole : Memory) → IsPart nothing whole
unfolding IsPart nothing at
part-nothing whole = λ page. inl refl

-- the memory by the strings
pub image-stacked : (file : List ℕ) (loads : List Load) (strings : List (List ℕ)) → stacked_image file loads (stack_pointer strings) (stack_bytes strings) ≡ image file loads strings
unfolding image stacked_image image_byte stacked_byte
image-stacked file loads strings = refl

pub image-by : (file : List ℕ) (loads : List Load) (strings : List (List ℕ)) (pointer : ℕ) (stack : List ℕ) → pointer ≡ stack_pointer strings → stack ≡ stack_bytes strings
    → stacked_image file loads pointer stack ≡ image file loads strings
image-by file loads strings pointer stack pointer_is stack_is =
    ap (λ p. stacked_image file loads p stack) pointer_is ∙ (ap (λ s. stacked_image file loads (stack_pointer strings) s) stack_is ∙ image-stacked file loads strings)
