-- Where nothing is free, all that can be is taken.
use Rattle.std.proofs.Common.{◌≡◌, ◌≢◌, ℕ, zero, suc, ◌+◌, ◌<◌, ◌≤◌, true, false, List, [], ◌∷◌, length, get_or, refl, arith}
use Rattle.std.specs.List.{sum_by}
use Rattle.std.proofs.lemmas.List.Sums.{sum_by-cons}
use Rattle.kernel_tables.specs.declared.entry.Entry.{Entry}
use Rattle.kernel_tables.specs.declared.entry.Entry.TheVariants.{Free, Taken, Fixed, Unspelled}
use Rattle.kernel_tables.specs.Kernel.{first_page}
use Rattle.kernel_tables.specs.Rows.{entry_at}
use Rattle.space_bank.specs.FreeList.{is_free, taken_one, taken_count}
use Rattle.space_bank.specs.Bank.{EntriesGood}
use Rattle.space_bank.specs.Laws.{NoPageIsFree, NoNodeIsFree}

sum_least : {X : Type 0} (f : X → ℕ) (xs : List X) (d : X) (start count : ℕ) → count ≤ length xs → ((n : ℕ) → start ≤ n → n < count → 1 ≤ f (get_or xs n d)) → count ≤ sum_by f xs + start
sum_least f [] d start count inside h = omega arith
sum_least f (x ∷ xs) d start zero inside h = omega arith
sum_least f (x ∷ xs) d zero (suc count) inside h =
    let first : 1 ≤ f x = h 0 (omega arith) (omega arith) in
    let rest = sum_least f xs d 0 count (omega arith) (λ n low high. h (suc n) (omega arith) (omega arith)) in
    omega (arith, sum_by-cons f x xs)
sum_least f (x ∷ xs) d (suc start) (suc count) inside h =
    let rest = sum_least f xs d start count (omega arith) (λ n low high. h (suc n) (omega arith) (omega arith)) in
    omega (arith, sum_by-cons f x xs)

used_one : {O : Type 0} (entry : Entry O) → is_free entry ≡ false → entry ≢ Fixed → entry ≢ Unspelled → 1 ≤ taken_one entry
used_one (Free next) used fixed spelled = let no : true ≡ false = used in cc
used_one (Taken owner count) used fixed spelled = omega arith
used_one Fixed used fixed spelled = absurd (fixed refl)
used_one Unspelled used fixed spelled = absurd (spelled refl)

-- the objects from some entry on, none of which is free or fixed, are all taken
all_taken : {O : Type 0} (entries : List (Entry O)) (base start count first taken : ℕ) → EntriesGood entries base count first taken → ((n : ℕ) → n < count → is_free (entry_at entries n) ≡ false) → ((n : ℕ) → start ≤ n → n < count → entry_at entries n ≢ Fixed) → count ≤ taken + start
unfolding taken_count
all_taken entries base start count first taken good none others =
    let rows = good.rows in
    let number = good.number in
    let inside : count ≤ length entries = omega arith in
    let least = sum_least taken_one entries Unspelled start count inside
    (λ n low high. used_one (entry_at entries n) (none n high) (others n low high) (good.spelled n high)) in
    omega arith

pub no_page-free : NoPageIsFree
no_page-free kernel good none =
    let least = all_taken kernel.page_entries (first_page kernel.size) 0 kernel.size kernel.machine.free_page kernel.machine.pages_taken good.pages.entries_good none
    (λ n low high. good.pages.none_fixed n high) in
    omega arith

pub no_node-free : NoNodeIsFree
no_node-free kernel good none =
    all_taken kernel.node_entries 0 15 kernel.nodes kernel.machine.free_node kernel.machine.nodes_taken good.nodes.entries_good none good.nodes.others
