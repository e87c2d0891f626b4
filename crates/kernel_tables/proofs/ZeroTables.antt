-- The tables of a store of zeros.
use Rattle.std.proofs.Common.{◌≡◌, ℕ, ◌+◌, ◌-◌, ◌*◌, ◌/◌, ◌<◌, ◌≤◌, Some, [], length, drop, replicate, get_or, refl, ap, ◌∙◌, arith}
use Rattle.std.proofs.lemmas.List.{get_or-replicate, drop-replicate}
use Rattle.std.specs.Int.{from_le_bytes, w32}
use Rattle.kn_base.specs.Memory.{Memory, page_at, zero_page, zero_memory}
use Rattle.kn_base.proofs.ZeroLaws.{table_at-zeros, length-zero_memory_pages, length-zero_memory_keys}
use Rattle.kn_base.specs.declared.key.Key.TheVariants.{Null}
use Rattle.kernel_tables.specs.declared.entry.Entry.TheVariants.{Free}
use Rattle.kernel_tables.specs.declared.row.Row.TheVariants.{Free as FreeRow}
use Rattle.kernel_tables.specs.Files.{inode_entry_of, description_entry_of}
use Rattle.kernel_tables.specs.Entries.{page_entry_of, node_entry_of}
use Rattle.kernel_tables.specs.Kernel.{kernel_of, tables_of, zero_kernel, machine_of, page_words, node_entry_page, first_page, entry_pages, node_count}
use Rattle.kernel_tables.proofs.Places.{same_tables}

-- a page of zeros as words
words-zeros : (pages nodes : ℕ) → 2 ≤ pages → page_words (zero_memory pages nodes).pages ≡ replicate 1024 0
unfolding page_words
words-zeros pages nodes two = table_at-zeros (from_le_bytes w32) 4 1024 1 1 pages nodes refl (omega arith)

word-zero : (n k : ℕ) → k < n → get_or {A = ℕ} (replicate n 0) k 0 ≡ 0
word-zero n k inside = get_or-replicate {A = ℕ} n k 0 0 inside

drop-words : (k n x : ℕ) → drop k (replicate n x) ≡ replicate (n - k) x
drop-words k n x = drop-replicate k n x

-- the ten words of zeros
machine_of-zeros : (n : ℕ) → 10 ≤ n → machine_of (replicate n 0) ≡ machine_of []
machine_of-zeros n ten =
    let e0 = word-zero n 0 (omega arith) in
    let e1 = word-zero n 1 (omega arith) in
    let e2 = word-zero n 2 (omega arith) in
    let e3 = word-zero n 3 (omega arith) in
    let e4 = word-zero n 4 (omega arith) in
    let e5 = word-zero n 5 (omega arith) in
    let e6 = word-zero n 6 (omega arith) in
    let e7 = word-zero n 7 (omega arith) in
    let e8 = word-zero n 8 (omega arith) in
    let e9 = word-zero n 9 (omega arith) in
    cc

-- eight zeros are the entry of a free object behind which there is none
zeros-page_entry : page_entry_of (replicate 8 0) ≡ Free 0
unfolding page_entry_of
zeros-page_entry = refl

zeros-node_entry : node_entry_of (replicate 8 0) ≡ Free 0
unfolding node_entry_of
zeros-node_entry = refl

zeros-inode : inode_entry_of (replicate 32 0) ≡ FreeRow
unfolding inode_entry_of
zeros-inode = refl

zeros-description : description_entry_of (replicate 16 0) ≡ FreeRow
unfolding description_entry_of
zeros-description = refl

page_at-zero_memory : (pages nodes page : ℕ) → page < pages → page_at (zero_memory pages nodes) page ≡ zero_page
unfolding zero_memory
page_at-zero_memory pages nodes page inside = get_or-replicate pages page zero_page [] inside

zero_memory-bank : (size pages nodes : ℕ) → pages ≡ first_page size + size → drop (first_page size) (zero_memory pages nodes).pages ≡ replicate size zero_page
unfolding zero_memory
zero_memory-bank size pages nodes e =
    let rest : pages - first_page size ≡ size = omega arith in
    drop-replicate (first_page size) pages zero_page ∙ ap (λ n. replicate n zero_page) rest

zero_memory-keys : (pages nodes : ℕ) → (zero_memory pages nodes).keys ≡ replicate (16 * nodes) (Some Null)
unfolding zero_memory
zero_memory-keys pages nodes = refl

tables_of-zeros : (size : ℕ) → tables_of size (zero_memory (first_page size + size) (node_count size)) ≡ zero_kernel size
unfolding tables_of zero_kernel first_page node_entry_page
tables_of-zeros size =
    let pages : ℕ = first_page size + size in
    let nodes : ℕ = node_count size in
    let words = words-zeros pages nodes (omega arith) in
    let counted : length (zero_memory pages nodes).keys / 16 ≡ nodes = omega (arith, length-zero_memory_keys pages nodes) in
    same_tables size (length-zero_memory_pages pages nodes) counted (page_at-zero_memory pages nodes 0 (omega arith))
    (ap machine_of words ∙ machine_of-zeros 1024 (omega arith))
    (ap (drop 10) words ∙ drop-words 10 1024 0)
    (table_at-zeros inode_entry_of 32 128 2 8 pages nodes refl (omega arith) ∙ ap (replicate 1024) zeros-inode)
    (table_at-zeros description_entry_of 16 256 10 8 pages nodes refl (omega arith) ∙ ap (replicate 2048) zeros-description)
    (table_at-zeros page_entry_of 8 512 18 (entry_pages size) pages nodes refl (omega arith)
    ∙ ap (replicate (512 * entry_pages size)) zeros-page_entry)
    (table_at-zeros node_entry_of 8 512 (node_entry_page size) (entry_pages nodes) pages nodes refl (omega arith)
    ∙ ap (replicate (512 * entry_pages nodes)) zeros-node_entry)
    (zero_memory-bank size pages nodes refl)
    (zero_memory-keys pages nodes)

-- the tables of a store of zeros, of the size for so many pages
pub kernel_of-zeros : (size : ℕ) → kernel_of (zero_memory (first_page size + size) (node_count size)) ≡ zero_kernel size
unfolding kernel_of
kernel_of-zeros size =
    let memory : Memory = zero_memory (first_page size + size) (node_count size) in
    let counted : (length memory.keys / 16 - 1296) / 4 ≡ size =
    omega (arith, length-zero_memory_keys (first_page size + size) (node_count size))
    in
    ap (λ s. tables_of s memory) counted ∙ tables_of-zeros size
