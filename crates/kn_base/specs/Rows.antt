-- Parts of lists, and tables that lie in pages as rows of a fixed size. This is the one place where the bytes of a table
-- are met: above it a table is a list of typed rows, and a row that is written is one `slice_set` of that list.
use Rattle.std.specs.Prelude.{ℕ, ◌+◌, ◌*◌, List, ◌++◌, length, take, drop, map}
use Rattle.std.specs.List.{range_with_len, flat_map}

-- n elements of a list, from a place on
abbrev pub part_at : {X : Type 0} → List X → ℕ → ℕ → List X
part_at xs place n = take n (drop place xs)

-- a list in which a part was written over what stood at a place
unfoldable pub overwritten : {X : Type 0} → List X → ℕ → List X → List X
overwritten xs place part = take place xs ++ part ++ drop (place + length part) xs

-- the first rows of a page, each of `size` bytes, as what they stand for
unfoldable pub rows : {X : Type 0} → (List ℕ → X) → ℕ → ℕ → List ℕ → List X
rows decode size count page = map (λ row. decode (part_at page (size * row) size)) (range_with_len 0 count)

-- the rows of several pages, one page after the other, with so many rows in each
unfoldable pub table : {X : Type 0} → (List ℕ → X) → ℕ → ℕ → List (List ℕ) → List X
table decode size per_page pages = flat_map (rows decode size per_page) pages

-- the table that begins at a page of a store and has so many pages
unfoldable pub table_at : {X : Type 0} → (List ℕ → X) → ℕ → ℕ → ℕ → ℕ → List (List ℕ) → List X
table_at decode size per_page first count pages = table decode size per_page (part_at pages first count)
