-- A memory in blocks: its sizes, a page or a key that is read, and a page or a key that is written.
use Rattle.std.proofs.Common.{◌≡◌, ℕ, ◌+◌, ◌-◌, ◌*◌, ◌/◌, ◌%◌, ◌<◌, ◌≤◌, Option, Some, None, List, [], length, take, drop, get_or, set, ap, sym, ◌∙◌, refl, arith, ⊎_elim, replicate}
use Rattle.std.proofs.lemmas.List.{length-take, length-take-le, length-replicate, get_or-replicate, get_or_past, take-replicate, drop-replicate, length-drop, get_or-take, get_or-drop, get_or-set_same, drop-set-add, drop-set-lt, take-set-le}
use Rattle.std.proofs.lemmas.Bool.{cases_lt}
use Rattle.std.proofs.Math.Seq.{take-set-lt}
use Rattle.kn_base.specs.declared.key.Key.{Key}
use Rattle.kn_base.specs.declared.key.Key.TheVariants.{Null}
use Rattle.kn_base.specs.Keys.{spelled_key, spelling, keys_by_kind}
use Rattle.kn_base.specs.Rows.{part_at, overwritten, table}
use Rattle.kn_base.specs.Memory.{Memory, memory_of, page_at, key_at, zero_page, zero_memory, ChangesBlock}
use Rattle.kn_base.proofs.ZeroLaws.{table-zeros}
use Rattle.kn_base.proofs.RowLaws.{length-table, table-read, table-written}

pub length-memory_pages : (pages : ℕ) (blocks : List (List ℕ)) → pages ≤ length blocks → length (memory_of pages blocks).pages ≡ pages
unfolding memory_of
length-memory_pages pages blocks h = length-take-le pages blocks h

pub length-memory_keys : (pages : ℕ) (blocks : List (List ℕ)) → pages ≤ length blocks → 256 * length blocks ≡ 256 * pages + length (memory_of pages blocks).keys
unfolding memory_of
length-memory_keys pages blocks h =
    omega (arith, length-table spelled_key 16 256 (drop pages blocks), length-drop pages blocks)

-- the block in which a node stands is there
pub node_block : (pages : ℕ) (blocks : List (List ℕ)) (node : ℕ) → pages ≤ length blocks → 16 * node < length (memory_of pages blocks).keys → pages + node / 16 < length blocks
node_block pages blocks node h inside = omega (arith, length-memory_keys pages blocks h)

pub page_at-memory_of : (pages : ℕ) (blocks : List (List ℕ)) (page : ℕ) → page < pages → page_at (memory_of pages blocks) page ≡ get_or blocks page []
unfolding memory_of
page_at-memory_of pages blocks page h = get_or-take pages blocks page [] h

-- the key that the bytes at its place spell
pub key_at-memory_of : (pages : ℕ) (blocks : List (List ℕ)) (node place : ℕ) → pages + node / 16 < length blocks → place < 16 → key_at (memory_of pages blocks) node place ≡ spelled_key (part_at (get_or blocks (pages + node / 16) []) (256 * (node % 16) + 16 * place) 16)
unfolding memory_of
key_at-memory_of pages blocks node place inside h =
    table-read spelled_key 16 256 (drop pages blocks) (node / 16) (256 * (node % 16) + 16 * place) (16 * node + place) None
    refl (omega (arith, length-drop pages blocks)) (omega arith) (omega arith)
    ∙ ap (λ block. spelled_key (part_at block (256 * (node % 16) + 16 * place) 16)) (get_or-drop pages blocks (node / 16) [])

-- a page is written
pub memory_of-set_page : (pages : ℕ) (blocks : List (List ℕ)) (page : ℕ) (bytes : List ℕ) → page < pages → memory_of pages (set blocks page bytes) ≡ record (memory_of pages blocks) { pages = set (memory_of pages blocks).pages page bytes }
unfolding memory_of
memory_of-set_page pages blocks page bytes h =
    ap (λ (list : List (List ℕ)). let m : Memory = record { pages = list; keys = table spelled_key 16 256 (drop pages (set blocks page bytes)) } in m)
    (take-set-lt pages blocks page bytes h)
    ∙ ap (λ (list : List (List ℕ)). let m : Memory = record { pages = set (take pages blocks) page bytes; keys = table spelled_key 16 256 list } in m)
    (drop-set-lt pages blocks page bytes h)

-- a key is written
pub memory_of-set_key : (pages : ℕ) (blocks : List (List ℕ)) (node place : ℕ) (bytes : List ℕ) (key : Key) → pages + node / 16 < length blocks → place < 16 → length (get_or blocks (pages + node / 16) []) ≡ 4096 → length bytes ≡ 16 → spelled_key bytes ≡ Some key → memory_of pages (set blocks (pages + node / 16) (overwritten (get_or blocks (pages + node / 16) []) (256 * (node % 16) + 16 * place) bytes)) ≡ record (memory_of pages blocks) { keys = set (memory_of pages blocks).keys (16 * node + place) (Some key) }
unfolding memory_of
memory_of-set_key pages blocks node place bytes key inside h whole sixteen spelled =
    let at : ℕ = 256 * (node % 16) + 16 * place in
    let old = get_or-drop pages blocks (node / 16) [] in
    ap (λ (list : List (List ℕ)). let m : Memory = record { pages = list; keys = table spelled_key 16 256 (drop pages (set blocks (pages + node / 16) (overwritten (get_or blocks (pages + node / 16) []) at bytes))) } in m)
    (take-set-le pages blocks (pages + node / 16) (overwritten (get_or blocks (pages + node / 16) []) at bytes) (omega arith))
    ∙ ap (λ (list : List (Option Key)). let m : Memory = record { pages = take pages blocks; keys = list } in m)
    (ap (table spelled_key 16 256)
    (drop-set-add pages blocks (node / 16) (overwritten (get_or blocks (pages + node / 16) []) at bytes)
    ∙ ap (λ block. set (drop pages blocks) (node / 16) (overwritten block at bytes)) (sym old))
    ∙ table-written spelled_key 16 256 (drop pages blocks) (node / 16) at (16 * node + place) bytes (Some key) refl
    (omega (arith, length-drop pages blocks)) (ap length old ∙ whole) (omega arith) (omega arith) sixteen spelled)

-- one block is written
pub set-changes_block : (blocks : List (List ℕ)) (block : ℕ) (bytes : List ℕ) → block < length blocks → ChangesBlock blocks (set blocks block bytes) block
set-changes_block blocks block bytes h = ap (set blocks block) (sym (get_or-set_same blocks block bytes [] h))

-- a page of zeros
pub length-zero_page : length zero_page ≡ 4096
unfolding zero_page
length-zero_page = length-replicate {A = ℕ} 4096 0

get_or-zeros : (n i : ℕ) → get_or {A = ℕ} (replicate n 0) i 0 ≡ 0
get_or-zeros n i =
    ⊎_elim (λ inside. get_or-replicate n i 0 0 inside)
    (λ past. get_or_past (replicate n 0) i 0 (omega (arith, length-replicate {A = ℕ} n 0))) (cases_lt i n)

pub get_or-zero_page : (place : ℕ) → get_or zero_page place 0 ≡ 0
unfolding zero_page
get_or-zero_page place = get_or-zeros 4096 place

-- no page stands past the last
page_at-past : (pages : ℕ) (blocks : List (List ℕ)) (page : ℕ) → pages ≤ page → page_at (memory_of pages blocks) page ≡ []
unfolding memory_of
page_at-past pages blocks page past =
    get_or_past (take pages blocks) page [] (omega (arith, length-take pages blocks))

-- the pages of blocks of bytes hold bytes
pub page_bytes : (pages : ℕ) (blocks : List (List ℕ)) → ((block place : ℕ) → get_or (get_or blocks block []) place 0 < 256) → (page place : ℕ) → get_or (page_at (memory_of pages blocks) page) place 0 < 256
page_bytes pages blocks bytes page place =
    ⊎_elim
    (λ (inside : page < pages). rw (page_at-memory_of pages blocks page inside) (bytes page place))
    (λ (past : pages ≤ page). rw (page_at-past pages blocks page past) (omega arith)) (cases_lt page pages)

-- sixteen zeros spell Null
zeros_spell_null : spelled_key (replicate 16 0) ≡ Some Null
unfolding spelled_key spelling keys_by_kind
zeros_spell_null = refl

-- blocks of zeros hold Null keys
zero_table : (blocks nodes : ℕ) → 16 * blocks ≡ nodes → table spelled_key 16 256 (replicate blocks zero_page) ≡ replicate (16 * nodes) (Some Null)
zero_table blocks nodes e =
    let count : 256 * blocks ≡ 16 * nodes = omega arith in
    table-zeros spelled_key 16 256 blocks refl
    ∙ ap (replicate (256 * blocks)) zeros_spell_null
    ∙ ap (λ n. replicate {A = Option Key} n (Some Null)) count

-- the memory of blocks of zeros
pub memory_of-zeros : (pages nodes : ℕ) → nodes % 16 ≡ 0 → memory_of pages (replicate (pages + nodes / 16) zero_page) ≡ zero_memory pages nodes
unfolding memory_of zero_memory
memory_of-zeros pages nodes whole =
    let rest : pages + nodes / 16 - pages ≡ nodes / 16 = omega arith in
    ap (λ (list : List (List ℕ)). let m : Memory = record { pages = list; keys = table spelled_key 16 256 (drop pages (replicate (pages + nodes / 16) zero_page)) } in m)
    (take-replicate pages (pages + nodes / 16) zero_page (omega arith))
    ∙ ap (λ (list : List (Option Key)). let m : Memory = record { pages = replicate pages zero_page; keys = list } in m)
    (ap (table spelled_key 16 256)
    (drop-replicate pages (pages + nodes / 16) zero_page ∙ ap (λ n. replicate n zero_page) rest)
    ∙ zero_table (nodes / 16) nodes (omega arith))
