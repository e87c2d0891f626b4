-- What the pages of the book stand for.
use Rattle.std.specs.Prelude.{ℕ, ◌+◌, ◌≤◌, Option, List, length, slice_index}
use Rattle.std.specs.Int.{from_le_bytes, w32}
use Rattle.kn_base.specs.declared.key.Key.{Key}
use Rattle.kn_base.specs.Rows.{table_at}
use Rattle.kn_base.specs.Memory.{Memory}
use Rattle.store_pattern.specs.declared.visitor.Visitor.{Visitor}
use Rattle.store_pattern.specs.Visitor.{visitor_of}

-- Words in page 1, rows of visitors in the pages behind it, so many as the first word says, and all keys. A row that
-- spells no visitor is None.
pub record Ledger : Type 0 where
  pub pages : ℕ
  pub words : List ℕ
  pub visitors : List (Option Visitor)
  pub keys : List (Option Key)

-- the words of page 1
unfoldable pub words_of : List (List ℕ) → List ℕ
words_of pages = table_at (from_le_bytes w32) 4 1024 1 1 pages

-- how many pages of visitors there are
abbrev pub book_pages : List (List ℕ) → ℕ
book_pages pages = slice_index (words_of pages) 0

unfoldable pub ledger_of : Memory → Ledger
ledger_of memory = record {
  pages = length memory.pages;
  words = words_of memory.pages;
  visitors = table_at visitor_of 8 512 2 (book_pages memory.pages) memory.pages;
  keys = memory.keys;
}

-- the sizes of a book
abbrev pub BookFits : Ledger → Type 0
BookFits ledger = 2 + slice_index ledger.words 0 ≤ ledger.pages
