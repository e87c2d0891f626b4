-- What stands in pages: the bytes of a file, the places of a directory, the contents of a pipe. Each is read from the bytes
-- of pages alone, so that it says the same of a machine whose other tables have changed.
use Rattle.std.specs.Prelude.{ℕ, zero, suc, ◌*◌, List, [], ◌∷◌, ◌++◌, take, drop, replicate, slice_index, bytes_eq, Option, Some, None, if◌then◌else◌}
use Rattle.std.specs.Int.{from_le_bytes, w32}
use Rattle.kn_base.specs.Memory.{zero_page}
use Rattle.kn_base.specs.Rows.{part_at}
use Rattle.unix_model.specs.Files.{Entry}
use Rattle.unix_model.specs.Limits.{place_bytes}
use Rattle.unix_model.specs.Memory.{Memory, Page}
use Rattle.unix_model.specs.Numbers.{pages_of}
use Rattle.unix_model.specs.Tables.{at}

-- the bytes of a page of a tree, which is zero where none is mapped
abbrev pub mapped_bytes : Option Page → List ℕ
mapped_bytes None = zero_page
mapped_bytes (Some page) = page.bytes

-- the first so many pages of a tree, one behind the other
unfoldable pub pages_in : Memory → ℕ → List ℕ
pages_in memory zero = []
pages_in memory (suc n) = pages_in memory n ++ mapped_bytes (at memory n)

-- the bytes of a file or directory of a length
unfoldable pub file_in : Memory → ℕ → List ℕ
file_in memory length = take length (pages_in memory (pages_of length))

-- A place of a directory has 32 bytes: the number of the inode, how many bytes the name has, and the name with zeros behind it.
-- A hole is all zero.
unfoldable pub place_in : List ℕ → Option Entry
place_in bytes =
    if bytes_eq bytes (replicate place_bytes 0) then None else
    Some (record { inode = from_le_bytes w32 (part_at bytes 0 4); name = take (slice_index bytes 4) (drop 5 bytes) })

-- the places in these bytes, the first so many
unfoldable pub places_in : List ℕ → ℕ → List (Option Entry)
places_in bytes zero = []
places_in bytes (suc n) = places_in bytes n ++ place_in (part_at bytes (place_bytes * n) place_bytes) ∷ []

-- A pipe's contents are a ring: so many bytes of its page from a first one on, and round.
unfoldable pub ring_in : List ℕ → (start length : ℕ) → List ℕ
ring_in page start length = take length (drop start page ++ take start page)
