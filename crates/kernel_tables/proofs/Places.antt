-- What a page that is written leaves of the tables.
use Rattle.std.proofs.Common.{◌≡◌, ◌≢◌, ℕ, ◌+◌, ◌-◌, ◌*◌, ◌/◌, ◌<◌, ◌≤◌, ◌==◌, if◌then◌else◌, Option, List, [], length, drop, set, get_or, refl, ap, sym, ◌∙◌, ⊎_elim, arith}
use Rattle.std.proofs.lemmas.List.{get_or-drop, drop-set-lt, drop-set-add, get_or-set_same, get_or-set_other, length-set}
use Rattle.std.proofs.lemmas.Bool.{cases_eq, eq-eqb, ne_eqb}
use Rattle.std.specs.Int.{from_le_bytes, w32}
use Rattle.kn_base.specs.declared.key.Key.{Key}
use Rattle.kernel_tables.specs.declared.machine.Machine.{Machine}
use Rattle.kernel_tables.specs.declared.entry.PageOwner.{PageOwner}
use Rattle.kernel_tables.specs.declared.entry.NodeOwner.{NodeOwner}
use Rattle.kernel_tables.specs.declared.entry.Entry.{Entry}
use Rattle.kernel_tables.specs.declared.row.Row.{Row}
use Rattle.kernel_tables.specs.declared.inode.Inode.{Inode}
use Rattle.kernel_tables.specs.declared.description.Description.{Description}
use Rattle.kn_base.specs.Rows.{overwritten, table_at}
use Rattle.kn_base.specs.Memory.{Memory, page_at}
use Rattle.kn_base.proofs.RowLaws.{tables_written, table_at-written, table_at-above, table_at-below, length-table_at}
use Rattle.kernel_tables.specs.Entries.{page_entry_of, node_entry_of}
use Rattle.kernel_tables.specs.Files.{inode_entry_of, description_entry_of}
use Rattle.kernel_tables.specs.Kernel.{Kernel, machine_of, with_word, page_words, tables_of, first_page, node_entry_page, entry_pages, node_count}

-- an element of a list of words in which one was written
pub word-set : (words : List ℕ) (n k word : ℕ) → n < length words → get_or (set words n word) k 0 ≡ (if n == k then word else get_or words k 0)
word-set words n k word h =
    ⊎_elim
    (λ (same : n ≡ k).
    ap (λ j. get_or (set words n word) j 0) (sym same)
    ∙ get_or-set_same words n word 0 h
    ∙ sym (ap (λ b. if b then word else get_or words k 0) (eq-eqb n k same)))
    (λ (other : n ≢ k).
    get_or-set_other words n k word 0 (λ e. other (sym e))
    ∙ sym (ap (λ b. if b then word else get_or words k 0) (ne_eqb n k other)))
    (cases_eq n k)

machine_of-set : (words : List ℕ) (n word : ℕ) → n < length words → machine_of (set words n word) ≡ with_word (machine_of words) n word
machine_of-set words n word h =
    let e0 = word-set words n 0 word h in
    let e1 = word-set words n 1 word h in
    let e2 = word-set words n 2 word h in
    let e3 = word-set words n 3 word h in
    let e4 = word-set words n 4 word h in
    let e5 = word-set words n 5 word h in
    let e6 = word-set words n 6 word h in
    let e7 = word-set words n 7 word h in
    let e8 = word-set words n 8 word h in
    let e9 = word-set words n 9 word h in
    cc

-- tables whose fields are equal
pub same_tables : (size : ℕ) {pages pages' : ℕ} → pages ≡ pages' → {nodes nodes' : ℕ} → nodes ≡ nodes' → {page_zero page_zero' : List ℕ} → page_zero ≡ page_zero' → {machine machine' : Machine} → machine ≡ machine' → {others others' : List ℕ} → others ≡ others' → {inodes inodes' : List (Row Inode)} → inodes ≡ inodes' → {descriptions descriptions' : List (Row Description)} → descriptions ≡ descriptions' → {page_entries page_entries' : List (Entry PageOwner)} → page_entries ≡ page_entries' → {node_entries node_entries' : List (Entry NodeOwner)} → node_entries ≡ node_entries' → {bank bank' : List (List ℕ)} → bank ≡ bank' → {keys keys' : List (Option Key)} → keys ≡ keys' → (let k : Kernel = record { size = size; pages = pages; nodes = nodes; page_zero = page_zero; machine = machine; other_words = others; inodes = inodes; descriptions = descriptions; page_entries = page_entries; node_entries = node_entries; bank = bank; keys = keys } in k) ≡ record { size = size; pages = pages'; nodes = nodes'; page_zero = page_zero'; machine = machine'; other_words = others'; inodes = inodes'; descriptions = descriptions'; page_entries = page_entries'; node_entries = node_entries'; bank = bank'; keys = keys' }
same_tables size p n z m o i d pe ne b k = cc

-- a word of the machine page is written
pub tables_of-word : (size : ℕ) (memory : Memory) (n word at : ℕ) (part : List ℕ) → first_page size ≤ length memory.pages → length (page_at memory 1) ≡ 4096 → n < 10 → 4 * n ≡ at → length part ≡ 4 → from_le_bytes w32 part ≡ word → tables_of size (record memory { pages = set memory.pages 1 (overwritten (page_at memory 1) at part) }) ≡ record (tables_of size memory) { machine = with_word (tables_of size memory).machine n word }
unfolding tables_of page_words first_page node_entry_page
tables_of-word size memory n word at part inside whole low place four spelled =
    let new = overwritten (page_at memory 1) at part in
    let words = table_at (from_le_bytes w32) 4 1024 1 1 memory.pages in
    let sizes : length (set memory.pages 1 new) ≡ length memory.pages = length-set memory.pages 1 new in
    let long : length words ≡ 1024 = length-table_at (from_le_bytes w32) 4 1024 1 1 memory.pages (omega arith) in
    let written : table_at (from_le_bytes w32) 4 1024 1 1 (set memory.pages 1 new) ≡ set words n word =
    table_at-written (from_le_bytes w32) 4 1024 1 1 memory.pages 1 at n part word refl (omega arith) (omega arith) (omega arith)
    whole (omega arith) (omega arith) four spelled
    in
    let machine : machine_of (table_at (from_le_bytes w32) 4 1024 1 1 (set memory.pages 1 new)) ≡ with_word (machine_of words) n word =
    ap machine_of written ∙ machine_of-set words n word (omega arith)
    in
    let others : drop 10 (table_at (from_le_bytes w32) 4 1024 1 1 (set memory.pages 1 new)) ≡ drop 10 words =
    ap (drop 10) written ∙ drop-set-lt 10 words n word low
    in
    let page_zero = get_or-set_other memory.pages 1 0 new [] (omega arith) in
    let inodes = table_at-below inode_entry_of 32 128 2 8 memory.pages 1 new (omega arith) in
    let descriptions = table_at-below description_entry_of 16 256 10 8 memory.pages 1 new (omega arith) in
    let page_entries = table_at-below page_entry_of 8 512 18 (entry_pages size) memory.pages 1 new (omega arith) in
    let node_entries = table_at-below node_entry_of 8 512 (18 + entry_pages size) (entry_pages (node_count size)) memory.pages 1 new (omega arith) in
    let bank = drop-set-lt (18 + entry_pages size + entry_pages (node_count size)) memory.pages 1 new (omega arith) in
    same_tables size sizes refl page_zero machine others inodes descriptions page_entries node_entries bank refl

-- a page of the bank by its number
pub get_or-bank : (first : ℕ) (pages : List (List ℕ)) (page : ℕ) → first ≤ page → get_or pages page [] ≡ get_or (drop first pages) (page - first) []
get_or-bank first pages page low =
    let place : first + (page - first) ≡ page = omega arith in
    ap (λ k. get_or pages k []) (sym place) ∙ sym (get_or-drop first pages (page - first) [])

drop-set_bank : (first : ℕ) (pages : List (List ℕ)) (page : ℕ) (bytes : List ℕ) → first ≤ page → drop first (set pages page bytes) ≡ set (drop first pages) (page - first) bytes
drop-set_bank first pages page bytes low =
    let place : first + (page - first) ≡ page = omega arith in
    ap (λ k. drop first (set pages k bytes)) (sym place) ∙ drop-set-add first pages (page - first) bytes

-- one whose bytes come of what it or another one held
pub drop-overwritten : (first : ℕ) (pages : List (List ℕ)) (page at : ℕ) (part : List ℕ) → first ≤ page → drop first (set pages page (overwritten (get_or pages page []) at part)) ≡ set (drop first pages) (page - first) (overwritten (get_or (drop first pages) (page - first) []) at part)
drop-overwritten first pages page at part low =
    drop-set_bank first pages page (overwritten (get_or pages page []) at part) low
    ∙ ap (λ bytes. set (drop first pages) (page - first) (overwritten bytes at part)) (get_or-bank first pages page low)

pub drop-copied : (first : ℕ) (pages : List (List ℕ)) (from to : ℕ) → first ≤ from → first ≤ to → drop first (set pages to (get_or pages from [])) ≡ set (drop first pages) (to - first) (get_or (drop first pages) (from - first) [])
drop-copied first pages from to from_low to_low =
    drop-set_bank first pages to (get_or pages from []) to_low
    ∙ ap (set (drop first pages) (to - first)) (get_or-bank first pages from from_low)

-- for a function that writes a row or a page
pub ruleset written = (tables_written, drop-set-lt, drop-set-add)

-- for a function that writes bytes of a page of the bank
pub ruleset bank_written = (tables_written, drop-set-lt, drop-overwritten, drop-copied)

-- for a function that reads bytes of one
pub ruleset bank_read = (get_or-bank)
