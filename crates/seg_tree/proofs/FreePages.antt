-- A page of the bank that nothing names is free.
use Rattle.std.proofs.Common.{◌≡◌, ◌≢◌, ◌<◌, ◌≤◌, ◌+◌, ◌-◌, ◌*◌, ◌==◌, ℕ, true, false, [], refl, arith}
use Rattle.std.proofs.lemmas.Bool.{ne_eqb}
use Rattle.kernel_tables.specs.declared.entry.Entry.{Entry}
use Rattle.kernel_tables.specs.declared.entry.Entry.TheVariants.{Free, Taken, Fixed, Unspelled}
use Rattle.kernel_tables.specs.Kernel.{Kernel, IsBankPage, first_page}
use Rattle.kernel_tables.specs.Rows.{entry_at}
use Rattle.space_bank.specs.Bank.{BankGood}
use Rattle.space_bank.specs.FreeList.{is_free, shares, taken_one}
use Rattle.space_bank.specs.Shares.{Outside, Shares, key_names_page, page_places, page_in_hand}
use Rattle.unix_model.specs.Tables.{at}
use Rattle.forest.specs.Objects.{PageObject, names}
use Rattle.forest.specs.Forest.{NobodyNames, namings}
use Rattle.forest.proofs.CopyLaws.{none_below}
use Rattle.forest.proofs.ExactLaws.{not_named}
use Rattle.kernel_forest.specs.Trees.{forest_of, outside_by, outside_trees}
use Rattle.kernel_forest.proofs.Bridge.{count_places, places_split}

-- an entry that is named nowhere is that of a free object
free_entry : {O : Type 0} (entry : Entry O) → entry ≢ Unspelled → entry ≢ Fixed → taken_one entry ≤ shares entry → shares entry ≡ 0 → is_free entry ≡ true
free_entry (Free next) spelled moved named none = refl
free_entry (Taken owner count) spelled moved named none = absurd (omega arith)
free_entry Fixed spelled moved named none = absurd (moved refl)
free_entry Unspelled spelled moved named none = absurd (spelled refl)

no_namings : (kernel : Kernel) (page : ℕ) → NobodyNames (forest_of kernel).keys (PageObject page) → namings (forest_of kernel) (PageObject page) ≡ 0
unfolding namings
no_namings kernel page nobody = none_below (λ place. names (PageObject page) (at (forest_of kernel).keys place)) (16 * kernel.nodes)
    (λ place less. not_named (at (forest_of kernel).keys place) (PageObject page) (nobody place))

unnamed_shares : (kernel : Kernel) (outside : Outside) (page : ℕ) → BankGood kernel → IsBankPage kernel.size page → Shares kernel outside []
    → NobodyNames (forest_of kernel).keys (PageObject page) → outside_trees kernel outside (PageObject page) ≡ 0
    → shares (entry_at kernel.page_entries (page - first_page kernel.size)) ≡ 0
unfolding outside_by page_places page_in_hand first_page
unnamed_shares kernel outside page good inside counted nobody unnamed =
    let low : first_page kernel.size ≤ page = inside.low in
    let high = inside.high in
    let n = page - first_page kernel.size in
    let below : page - first_page kernel.size < kernel.size = omega arith in
    let number : first_page kernel.size + n ≡ page = omega arith in
    let real : (page == 0) ≡ false = ne_eqb page 0 (λ e. absurd (omega arith)) in
    let agreed = counted.of_pages.agree n (omega arith) below in
    let places = count_places (key_names_page page) kernel.keys refl in
    let split = rw (← good.nodes.all_keys) at (places_split kernel (PageObject page)) in
    let none = no_namings kernel page nobody in
    let out = rw real at unnamed in
    rw (agreed, number) (omega arith)

pub unnamed_free : (kernel : Kernel) (outside : Outside) (page : ℕ) → BankGood kernel → IsBankPage kernel.size page → Shares kernel outside []
    → NobodyNames (forest_of kernel).keys (PageObject page) → outside_trees kernel outside (PageObject page) ≡ 0
    → is_free (entry_at kernel.page_entries (page - first_page kernel.size)) ≡ true
unnamed_free kernel outside page good inside counted nobody unnamed =
    let low = inside.low in
    let high = inside.high in
    let below : page - first_page kernel.size < kernel.size = omega arith in
    free_entry (entry_at kernel.page_entries (page - first_page kernel.size))
    (good.pages.entries_good.spelled (page - first_page kernel.size) below)
    (good.pages.none_fixed (page - first_page kernel.size) below)
    (good.pages.entries_good.named (page - first_page kernel.size))
    (unnamed_shares kernel outside page good inside counted nobody unnamed)
