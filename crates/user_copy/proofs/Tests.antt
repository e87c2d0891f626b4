-- Whether bytes may be written, page by page.
use Rattle.std.proofs.Common.{◌≡◌, ◌<◌, ◌≤◌, ◌+◌, ◌-◌, ◌*◌, ◌/◌, ◌%◌, ◌^◌, ℕ, zero, suc, Bool, true, false, Some, None, refl, sym, arith, ⊎_elim}
use Rattle.std.proofs.lemmas.Bool.{cases_lt}
use Rattle.kernel_tables.specs.Kernel.{Kernel}
use Rattle.unix_model.specs.Memory.{Memory, Page, all_writable, is_writable}
use Rattle.unix_model.specs.Tables.{at}
use Rattle.unix_model.proofs.MemoryLaws.{all_writable-refused}
use Rattle.user_copy.specs.SpaceMemory.{space_memory}
use Rattle.user_copy.proofs.Pages.{memory_far}

pub writable_found : (memory : Memory) (address number : ℕ) (page : Page) → at memory number ≡ Some page → address / 4096 ≡ number → page.writable ≡ is_writable memory address
unfolding is_writable
writable_found memory address number page e is = rw (is, e) refl

pub writable_none : (memory : Memory) (address number : ℕ) → at memory number ≡ None → address / 4096 ≡ number → false ≡ is_writable memory address
unfolding is_writable
writable_none memory address number e is = rw (is, e) refl

-- behind the last page nothing may be
pub writable_far : (kernel : Kernel) (space address n : ℕ) → 2 ^ 31 < address + n → 0 < n → false ≡ all_writable (space_memory kernel space) address n
writable_far kernel space address n far some =
    sym (all_writable-refused (space_memory kernel space) address (n - 1) n (omega arith)
    (sym (writable_none (space_memory kernel space) (address + (n - 1)) ((address + (n - 1)) / 4096) (memory_far kernel space ((address + (n - 1)) / 4096) (omega arith)) refl)))

pub writable_nothing : (memory : Memory) (address n : ℕ) → n ≡ 0 → true ≡ all_writable memory address n
unfolding all_writable
writable_nothing memory address zero e = refl
writable_nothing memory address (suc n) e = absurd (omega arith)

-- all may be, one by one
pub each_writable : (memory : Memory) (address n : ℕ) → ((i : ℕ) → i < n → is_writable memory (address + i) ≡ true) → true ≡ all_writable memory address n
unfolding all_writable
each_writable memory address zero each = refl
each_writable memory address (suc n) each =
    let before : true ≡ all_writable memory address n = each_writable memory address n (λ i below. each i (omega arith)) in
    let here : is_writable memory (address + n) ≡ true = each n (omega arith) in
    rw (← before, here) refl

-- the pages so far may be written, and one more
pub one_page_more : (memory : Memory) (address count page : ℕ) → ((i : ℕ) → i < count → (address + i) / 4096 < page → is_writable memory (address + i) ≡ true)
    → ((a : ℕ) → a / 4096 ≡ page → true ≡ is_writable memory a)
    → (i : ℕ) → i < count → (address + i) / 4096 < page + 1 → is_writable memory (address + i) ≡ true
one_page_more memory address count page before here i below within = ⊎_elim
    (λ (t : (address + i) / 4096 < page). before i below t)
    (λ (t : page ≤ (address + i) / 4096). sym (here (address + i) (omega arith)))
    (cases_lt ((address + i) / 4096) page)

-- a page that may not be written has a byte of the range
pub one_page_refused : (memory : Memory) (address count page : ℕ) → 0 < count → address / 4096 ≤ page → page < (address + count - 1) / 4096 + 1
    → ((a : ℕ) → a / 4096 ≡ page → false ≡ is_writable memory a)
    → false ≡ all_writable memory address count
one_page_refused memory address count page some low high here =
    sym (all_writable-refused memory address (4096 * page - address) count (omega arith)
    (sym (here (address + (4096 * page - address)) (omega arith))))

-- a range that lies in one page may be written where its page may
pub in_one_page : (memory : Memory) (address count page : ℕ) (may : Bool) → 0 < count → address % 4096 + count ≤ 4096 → address / 4096 ≡ page
    → ((a : ℕ) → a / 4096 ≡ page → may ≡ is_writable memory a)
    → may ≡ all_writable memory address count
in_one_page memory address count page true some within is here = each_writable memory address count (λ i below. sym (here (address + i) (omega arith)))
in_one_page memory address count page false some within is here =
    sym (all_writable-refused memory address 0 count some (sym (here (address + 0) (omega arith))))
