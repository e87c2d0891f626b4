-- The laws of a store, for the store in memory.
use Rattle.std.specs.Prelude.{◌≡◌, ◌<◌, ◌≤◌, ◌+◌, ◌*◌, ◌/◌, ◌^◌, ℕ, length, vec_len, slice_index}
use Rattle.std.proofs.Common.{arith, sym, ap, ◌∙◌, refl}
use Rattle.kn_base.specs.Memory.{memory_of, page_at}
use Rattle.kn_base.proofs.MemoryLaws.{length-memory_pages, length-memory_keys, page_at-memory_of, page_bytes, node_block}
use Rattle.obj_store.specs.declared.ram.RamStore.{RamStore}
use Rattle.obj_store.specs.Ram.{Ram, KeepsMarks}
use Rattle.obj_store.specs.Store.{ram_memory}

pages_inside : (s : RamStore) → s.pages ≤ length s.blocks.items
pages_inside s =
    let sizes : 16 * vec_len s.blocks ≡ 16 * s.pages + s.nodes = s.counted in omega (arith, s.blocks.ok)

pub ram-tied : (s : RamStore) → ram_memory s ≡ memory_of (length (ram_memory s).pages) s.blocks.items
ram-tied s = ap (λ n. memory_of n s.blocks.items) (sym (length-memory_pages s.pages s.blocks.items (pages_inside s)))

pub ram-key_count : (s : RamStore) → 256 * length s.blocks.items ≡ 256 * length (ram_memory s).pages + length (ram_memory s).keys
ram-key_count s =
    omega (
      arith,
      length-memory_pages s.pages s.blocks.items (pages_inside s),
      length-memory_keys s.pages s.blocks.items (pages_inside s),
    )

pub ram-page_length : (s : RamStore) (page : ℕ) → page < length (ram_memory s).pages → length (page_at (ram_memory s) page) ≡ 4096
ram-page_length s page h =
    let inside : page < s.pages = omega (arith, length-memory_pages s.pages s.blocks.items (pages_inside s)) in
    ap length (page_at-memory_of s.pages s.blocks.items page inside) ∙ s.whole page (omega (arith, pages_inside s))

pub ram-page_bytes : (s : RamStore) (page place : ℕ) → slice_index (page_at (ram_memory s) page) place < 256
ram-page_bytes s page place = page_bytes s.pages s.blocks.items s.bytes page place

-- what isn't marked at the end wasn't marked before
pub ram-keeps_same : (ram : Ram) → KeepsMarks ram ram
ram-keeps_same ram = record { unmarked = λ block h. h; same = λ block h. refl }

pub ram-keeps_trans : (a b c : Ram) → KeepsMarks a b → KeepsMarks b c → KeepsMarks a c
ram-keeps_trans a b c first second = record {
  unmarked = λ block h. first.unmarked block (second.unmarked block h);
  same = λ block h. second.same block h ∙ first.same block (second.unmarked block h);
}

-- the block of a node is there
pub node_inside : (s : RamStore) (node : ℕ) → 16 * node < length (ram_memory s).keys → s.pages + node / 16 < length s.blocks.items
node_inside s node h = node_block s.pages s.blocks.items node (pages_inside s) h

-- a page is one of the blocks
pub page_counted : (s : RamStore) (page : ℕ) → page < length (ram_memory s).pages → page < s.pages
page_counted s page h = omega (arith, length-memory_pages s.pages s.blocks.items (pages_inside s))

pub page_inside : (s : RamStore) (page : ℕ) → page < length (ram_memory s).pages → page < length s.blocks.items
page_inside s page h = omega (arith, page_counted s page h, pages_inside s)

pub ram-pages : (s : RamStore) → s.pages ≡ length (ram_memory s).pages
ram-pages s = sym (length-memory_pages s.pages s.blocks.items (pages_inside s))

pub ram-nodes : (s : RamStore) → 16 * s.nodes ≡ length (ram_memory s).keys
ram-nodes s =
    let sizes : 16 * vec_len s.blocks ≡ 16 * s.pages + s.nodes = s.counted in
    omega (arith, s.blocks.ok, ram-key_count s, length-memory_pages s.pages s.blocks.items (pages_inside s))

-- pages and nodes are numbered in 32 bits
pub ram-page_numbers : (s : RamStore) → length (ram_memory s).pages < 2 ^ 32
ram-page_numbers s = omega (arith, ram-pages s, pages_inside s, s.few, s.blocks.ok)

pub ram-node_numbers : (s : RamStore) → length (ram_memory s).keys < 2 ^ 36
ram-node_numbers s = omega (arith, ram-nodes s, s.few_nodes)
