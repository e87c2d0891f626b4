-- The memory of a loaded program, by the bytes of its stack and the address where they begin.
use Rattle.std.specs.Prelude.{◌≡◌, ◌⊎◌, ℕ, ◌+◌, ◌-◌, ◌*◌, ◌≤◌, ◌<◌, true, List, Some, None, is_some, slice_index, nat_lt, if◌then◌else◌}
use Rattle.std.specs.List.{list_any}
use Rattle.unix_model.specs.declared.elf.Load.{Load}
use Rattle.unix_model.specs.Limits.{page_bytes}
use Rattle.unix_model.specs.Loading.{load_byte, page_mapped, page_writable, touches}
use Rattle.unix_model.specs.Memory.{Memory, Page}
use Rattle.unix_model.specs.Tables.{at, tabulate}

-- the byte at an address
unfoldable pub stacked_byte : (file : List ℕ) → List Load → (pointer : ℕ) → (stack : List ℕ) → ℕ → ℕ
stacked_byte file loads pointer stack address =
    if nat_lt address pointer then load_byte file loads address else slice_index stack (address - pointer)

abbrev pub stacked_page : (file : List ℕ) → List Load → (pointer : ℕ) → (stack : List ℕ) → ℕ → Page
stacked_page file loads pointer stack page =
    record {
      writable = page_writable loads page;
      bytes = tabulate (λ place. stacked_byte file loads pointer stack (page_bytes * page + place)) page_bytes;
    }

unfoldable pub stacked_image : (file : List ℕ) → List Load → (pointer : ℕ) → (stack : List ℕ) → Memory
stacked_image file loads pointer stack =
    λ page. if page_mapped loads page then Some (stacked_page file loads pointer stack page) else None

-- what is there in the one memory is the same in the other
unfoldable pub IsPart : Memory → Memory → Type 0
IsPart part whole = (page : ℕ) → (at part page ≡ None) ⊎ (at part page ≡ at whole page)

-- the pages from one number to another are mapped
unfoldable pub AreMapped : Memory → (from to : ℕ) → Type 0
AreMapped memory from to = (page : ℕ) → from ≤ page → page < to → is_some (at memory page) ≡ true

-- what was mapped before is mapped after
unfoldable pub Keeps : (before after : Memory) → Type 0
Keeps before after = (page : ℕ) → is_some (at before page) ≡ true → is_some (at after page) ≡ true

-- the program has each page from one number to another
unfoldable pub ArePages : List Load → (from to : ℕ) → Type 0
ArePages loads from to = (page : ℕ) → from ≤ page → page < to → page_mapped loads page ≡ true

-- the program has each page in which the load has bytes
unfoldable pub HasPages : List Load → Load → Type 0
HasPages loads load = (page : ℕ) → touches page load ≡ true → page_mapped loads page ≡ true

-- each page in which the load has bytes is mapped
unfoldable pub IsLoaded : Memory → Load → Type 0
IsLoaded memory load = (page : ℕ) → touches page load ≡ true → is_some (at memory page) ≡ true

-- each page in which one of the loads has bytes is mapped
unfoldable pub AreLoaded : Memory → List Load → Type 0
AreLoaded memory loads = (page : ℕ) → list_any (touches page) loads ≡ true → is_some (at memory page) ≡ true
