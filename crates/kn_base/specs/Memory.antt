-- What a store holds: pages of bytes and one flat list of keys.
use Rattle.std.specs.Prelude.{◌≡◌, ℕ, ◌+◌, ◌*◌, ◌/◌, ◌%◌, Option, Some, None, List, [], take, drop, replicate, slice_index_or, slice_set}
use Rattle.kn_base.specs.declared.key.Key.{Key}
use Rattle.kn_base.specs.declared.key.Key.TheVariants.{Null}
use Rattle.kn_base.specs.Keys.{spelling, spelled_key}
use Rattle.kn_base.specs.Rows.{overwritten, table}

-- Pages of 4,096 bytes, and the keys of all nodes: key k of node n stands at place 16 * n + k, and is None where the
-- sixteen bytes there spell no key.
pub record Memory : Type 0 where
  pub pages : List (List ℕ)
  pub keys : List (Option Key)

-- the bytes of a page
abbrev pub page_at : Memory → ℕ → List ℕ
page_at memory page = slice_index_or memory.pages page []

-- the key at a place of a node, if the bytes there spell one
abbrev pub key_at : Memory → ℕ → ℕ → Option Key
key_at memory node place = slice_index_or memory.keys (16 * node + place) None

-- a page of zeros
unfoldable pub zero_page : List ℕ
zero_page = replicate 4096 0

-- so many pages of zeros, and so many nodes of Null keys
unfoldable pub zero_memory : ℕ → ℕ → Memory
zero_memory pages nodes = record { pages = replicate pages zero_page; keys = replicate (16 * nodes) (Some Null) }

-- the memory in blocks of 4,096 bytes, of which the first are the pages and each other one holds sixteen nodes of
-- sixteen keys
unfoldable pub memory_of : ℕ → List (List ℕ) → Memory
memory_of pages blocks = record { pages = take pages blocks; keys = table spelled_key 16 256 (drop pages blocks) }

-- blocks in which a key was written at a place of a node, and no other byte
unfoldable pub with_key_bytes : List (List ℕ) → ℕ → ℕ → ℕ → Key → List (List ℕ)
with_key_bytes blocks pages node place key =
    let block = pages + node / 16 in
    slice_set blocks block
    (overwritten (slice_index_or blocks block []) (256 * (node % 16) + 16 * place) (spelling key))

-- no block but this one has changed
abbrev pub ChangesBlock : List (List ℕ) → List (List ℕ) → ℕ → Type 0
ChangesBlock old new block = new ≡ slice_set old block (slice_index_or new block [])
