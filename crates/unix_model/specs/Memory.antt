-- Flat memory: page numbers below 2^19 to pages of 4,096 bytes. The byte at address a is byte a mod 4096 of page
-- a / 4096. A range of addresses doesn't wrap: from 0x8000_0000 on nothing is mapped.
use Rattle.std.specs.Prelude.{ℕ, zero, suc, ◌+◌, ◌/◌, ◌%◌, Bool, true, false, ◌&&◌, List, [], ◌∷◌, ◌++◌, replicate, Option, Some, None, is_some, option_map, slice_index, slice_set, nat_le, nat_lt, if◌then◌else◌}
use Rattle.std.specs.Option.{unwrap_or}
use Rattle.unix_model.specs.Limits.{page_bytes, user_pages}
use Rattle.unix_model.specs.Tables.{at, with_at, count_below, option_or}
use Rattle.unix_model.specs.Numbers.{word_of_bytes, pages_of}

pub record Page : Type 0 where
  pub writable : Bool
  pub bytes : List ℕ

abbrev pub Memory : Type 0
Memory = ℕ → Option Page

-- the byte at an address, or None where it isn't mapped
unfoldable pub byte_at : Memory → ℕ → Option ℕ
byte_at memory address = option_map (λ (page : Page). slice_index page.bytes (address % page_bytes)) (at memory (address / page_bytes))

-- a list and one more byte, where both are there
abbrev pub and_byte : Option (List ℕ) → Option ℕ → Option (List ℕ)
and_byte (Some bytes) (Some byte) = Some (bytes ++ byte ∷ [])
and_byte (Some bytes) None = None
and_byte None byte = None

-- the bytes of a range, or None where one of them isn't mapped
unfoldable pub bytes_at : Memory → ℕ → ℕ → Option (List ℕ)
bytes_at memory address zero = Some []
bytes_at memory address (suc n) = and_byte (bytes_at memory address n) (byte_at memory (address + n))

-- the word at an address, or None where one of its four bytes isn't mapped
unfoldable pub word_at : Memory → ℕ → Option ℕ
word_at memory address = option_map word_of_bytes (bytes_at memory address 4)

-- how many pages are mapped
unfoldable pub mapped_pages : Memory → ℕ
mapped_pages memory = count_below (λ n. is_some (at memory n)) user_pages

-- whether a byte may be written: it is mapped, on a writable page
unfoldable pub is_writable : Memory → ℕ → Bool
is_writable memory address = unwrap_or (option_map (λ (page : Page). page.writable) (at memory (address / page_bytes))) false

-- whether each byte of a range may be written
unfoldable pub all_writable : Memory → ℕ → ℕ → Bool
all_writable memory address zero = true
all_writable memory address (suc n) = all_writable memory address n && is_writable memory (address + n)

-- a page with one of its bytes written
abbrev pub page_with_byte : ℕ → ℕ → Page → Page
page_with_byte place byte page = record page { bytes = slice_set page.bytes place byte }

-- the memory with one byte written, where it is mapped
unfoldable pub with_byte : Memory → ℕ → ℕ → Memory
with_byte memory address byte =
    with_at memory (address / page_bytes) (option_map (page_with_byte (address % page_bytes) byte) (at memory (address / page_bytes)))

-- the memory with these bytes written from an address on
unfoldable pub with_bytes : Memory → ℕ → List ℕ → Memory
with_bytes memory address [] = memory
with_bytes memory address (byte ∷ bytes) = with_bytes (with_byte memory address byte) (address + 1) bytes

-- a page that was just mapped
unfoldable pub zero_page : Page
zero_page = record { writable = true; bytes = replicate page_bytes 0 }

-- the memory with the pages from one number to another mapped, where they aren't yet
unfoldable pub with_zero_pages : Memory → ℕ → ℕ → Memory
with_zero_pages memory from to =
    λ page. if nat_le from page && nat_lt page to then option_or (at memory page) (Some zero_page) else at memory page

-- the memory with none of them mapped
unfoldable pub without_pages : Memory → ℕ → ℕ → Memory
without_pages memory from to = λ page. if nat_le from page && nat_lt page to then None else at memory page

-- the memory whose break moves from one address to another: from the break's start up to the new address all pages are
-- mapped, and from there up to the old one none is
abbrev pub with_break : Memory → (start old new : ℕ) → Memory
with_break memory start old new = without_pages (with_zero_pages memory (start / page_bytes) (pages_of new)) (pages_of new) (pages_of old)
