-- What a store in memory holds: its blocks, and which of them have changed.
use Rattle.std.specs.Prelude.{◌≡◌, ℕ, ◌+◌, ◌/◌, Bool, true, false, List, [], replicate, slice_index_or, slice_set}
use Rattle.kn_base.specs.Memory.{zero_page}

-- The first blocks, so many as there are pages, are pages. A block is dirty where its mark is true.
pub record Ram : Type 0 where
  pub pages : ℕ
  pub blocks : List (List ℕ)
  pub dirty : List Bool

-- a store in which a block has these bytes and is marked
abbrev pub with_block : Ram → ℕ → List ℕ → Ram
with_block ram block bytes = record ram { blocks = slice_set ram.blocks block bytes; dirty = slice_set ram.dirty block true }

-- each block that isn't marked afterwards wasn't marked before and has the same bytes
pub record KeepsMarks (old new : Ram) : Type 0 where
  pub unmarked : (block : ℕ) → slice_index_or new.dirty block false ≡ false → slice_index_or old.dirty block false ≡ false
  pub same : (block : ℕ) → slice_index_or new.dirty block false ≡ false → slice_index_or new.blocks block [] ≡ slice_index_or old.blocks block []

-- a store of zeros in which nothing is marked
abbrev pub zero_ram : ℕ → ℕ → Ram
zero_ram pages nodes = record {
  pages = pages;
  blocks = replicate (pages + nodes / 16) zero_page;
  dirty = replicate (pages + nodes / 16) false;
}
