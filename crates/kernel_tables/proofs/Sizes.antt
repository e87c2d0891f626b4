-- The sizes of the tables of a store.
use Rattle.std.proofs.Common.{◌≡◌, ◌≢◌, ◌⊎◌, ⊎_elim, if◌then◌else◌, ℕ, ◌<◌, length, ap, sym, ◌∙◌, arith}
use Rattle.std.proofs.lemmas.Bool.{cases_eq, eq-eqb, ne_eqb}
use Rattle.kn_base.specs.Memory.{Memory, page_at}
use Rattle.kn_base.proofs.RowLaws.{length-table_at}
use Rattle.kernel_tables.specs.Files.{inode_entry_of, description_entry_of}
use Rattle.kernel_tables.specs.Kernel.{kernel_of, tables_of, first_page, Sized, IsBankPage, bank_page, memory_page}
use Rattle.kernel_tables.proofs.Places.{get_or-bank}

pub length-inodes : (memory : Memory) → Sized (kernel_of memory) → length (kernel_of memory).inodes ≡ 1024
unfolding kernel_of tables_of first_page
length-inodes memory sized = length-table_at inode_entry_of 32 128 2 8 memory.pages (omega (arith, sized.all_pages))

pub length-descriptions : (memory : Memory) → Sized (kernel_of memory) → length (kernel_of memory).descriptions ≡ 2048
unfolding kernel_of tables_of first_page
length-descriptions memory sized = length-table_at description_entry_of 16 256 10 8 memory.pages (omega (arith, sized.all_pages))

-- A page of the bank has 4,096 bytes, and so has page 0.
pub length-bank_page : (memory : Memory) (page : ℕ) → Sized (kernel_of memory) → IsBankPage (kernel_of memory).size page → ((n : ℕ) → n < length memory.pages → length (page_at memory n) ≡ 4096) → length (bank_page (kernel_of memory) page) ≡ 4096
unfolding kernel_of tables_of
length-bank_page memory page sized inside lengths =
    ap length (sym (get_or-bank _ memory.pages page inside.low)) ∙ lengths page (omega (arith, sized.all_pages, inside.high))

pub length-page_zero : (memory : Memory) → Sized (kernel_of memory) → ((n : ℕ) → n < length memory.pages → length (page_at memory n) ≡ 4096) → length (kernel_of memory).page_zero ≡ 4096
unfolding kernel_of tables_of first_page
length-page_zero memory sized lengths = lengths 0 (omega (arith, sized.all_pages))

pub length-memory_page : (memory : Memory) (page : ℕ) → Sized (kernel_of memory) → (page ≡ 0) ⊎ IsBankPage (kernel_of memory).size page → ((n : ℕ) → n < length memory.pages → length (page_at memory n) ≡ 4096) → length (memory_page (kernel_of memory) page) ≡ 4096
length-memory_page memory page sized allowed lengths =
    ⊎_elim
    (λ (zero : page ≡ 0).
    ap (λ b. length (if b then (kernel_of memory).page_zero else bank_page (kernel_of memory) page)) (eq-eqb page 0 zero)
    ∙ length-page_zero memory sized lengths)
    (λ (inside : IsBankPage (kernel_of memory).size page).
    ⊎_elim
    (λ (zero : page ≡ 0).
    ap (λ b. length (if b then (kernel_of memory).page_zero else bank_page (kernel_of memory) page)) (eq-eqb page 0 zero)
    ∙ length-page_zero memory sized lengths)
    (λ (other : page ≢ 0).
    ap (λ b. length (if b then (kernel_of memory).page_zero else bank_page (kernel_of memory) page)) (ne_eqb page 0 other)
    ∙ length-bank_page memory page sized inside lengths)
    (cases_eq page 0))
    allowed
