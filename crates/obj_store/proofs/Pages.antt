-- What a block that is written and marked leaves of the pages and keys, and of the marks.
use Rattle.std.proofs.Common.{◌≡◌, ◌≢◌, ℕ, ◌+◌, ◌*◌, ◌/◌, ◌%◌, ◌<◌, Bool, true, false, List, [], Some, length, get_or, set, ap, sym, ◌∙◌}
use Rattle.std.proofs.lemmas.List.{get_or-set_same, get_or-set_other}
use Rattle.kn_base.specs.declared.key.Key.{Key}
use Rattle.kn_base.specs.Keys.{spelling, spelled_key}
use Rattle.kn_base.specs.Rows.{overwritten}
use Rattle.kn_base.specs.Memory.{Memory, memory_of, page_at, with_key_bytes, ChangesBlock}
use Rattle.kn_base.proofs.MemoryLaws.{page_at-memory_of, memory_of-set_page, memory_of-set_key, set-changes_block}
use Rattle.obj_store.specs.declared.ram.RamStore.{RamStore}
use Rattle.obj_store.specs.Ram.{Ram, with_block, KeepsMarks}
use Rattle.obj_store.specs.Store.{ram_of, ram_memory}
use Rattle.obj_store.specs.StoreLaws.{page_counted, node_inside, ram-pages}

-- the memory in a record
abbrev memory_in : Ram → Memory
memory_in ram = memory_of ram.pages ram.blocks

-- a page is written
pub page_written : (old new : RamStore) (page : ℕ) (bytes : List ℕ) → page < length (ram_memory old).pages → ram_of new ≡ with_block (ram_of old) page bytes → ram_memory new ≡ record (ram_memory old) { pages = set (ram_memory old).pages page bytes }
page_written old new page bytes h e =
    ap memory_in e ∙ memory_of-set_page old.pages old.blocks.items page bytes (page_counted old page h)

-- a part of a page is written
pub part_of_page_written : (old new : RamStore) (page at : ℕ) (part : List ℕ) → page < length (ram_memory old).pages → ram_of new ≡ with_block (ram_of old) page (overwritten (get_or old.blocks.items page []) at part) → ram_memory new ≡ record (ram_memory old) { pages = set (ram_memory old).pages page (overwritten (page_at (ram_memory old) page) at part) }
part_of_page_written old new page at part h e =
    page_written old new page (overwritten (page_at (ram_memory old) page) at part) h
    (e
    ∙ ap (λ block. with_block (ram_of old) page (overwritten block at part))
    (sym (page_at-memory_of old.pages old.blocks.items page (page_counted old page h))))

-- a key is written
pub key_written : (old new : RamStore) (node place number at : ℕ) (bytes : List ℕ) (key : Key) → 16 * node < length (ram_memory old).keys → place < 16 → number ≡ old.pages + node / 16 → at ≡ 256 * (node % 16) + 16 * place → length bytes ≡ 16 → spelled_key bytes ≡ Some key → ram_of new ≡ with_block (ram_of old) number (overwritten (get_or old.blocks.items number []) at bytes) → ram_memory new ≡ record (ram_memory old) { keys = set (ram_memory old).keys (16 * node + place) (Some key) }
key_written old new node place number at bytes key h low block offset sixteen spelled e =
    let inside : old.pages + node / 16 < length old.blocks.items = node_inside old node h in
    ap memory_in
    (e
    ∙ ap (λ b. with_block (ram_of old) b (overwritten (get_or old.blocks.items b []) at bytes)) block
    ∙ ap
    (λ a. with_block (ram_of old) (old.pages + node / 16) (overwritten (get_or old.blocks.items (old.pages + node / 16) []) a bytes))
    offset)
    ∙ memory_of-set_key old.pages old.blocks.items node place bytes key inside low
    (old.whole (old.pages + node / 16) inside) sixteen spelled

pub key_bytes_written : (old new : RamStore) (node place number at : ℕ) (bytes : List ℕ) (key : Key) → number ≡ old.pages + node / 16 → at ≡ 256 * (node % 16) + 16 * place → bytes ≡ spelling key → ram_of new ≡ with_block (ram_of old) number (overwritten (get_or old.blocks.items number []) at bytes) → new.blocks.items ≡ with_key_bytes old.blocks.items (length (ram_memory old).pages) node place key
unfolding with_key_bytes
key_bytes_written old new node place number at bytes key block offset spelled e =
    let count : old.pages + node / 16 ≡ length (ram_memory old).pages + node / 16 =
    ap (λ n. n + node / 16) (ram-pages old)
    in
    ap (λ ram. ram.blocks) e
    ∙ ap (λ part. set old.blocks.items number (overwritten (get_or old.blocks.items number []) at part)) spelled
    ∙ ap (λ a. set old.blocks.items number (overwritten (get_or old.blocks.items number []) a (spelling key))) offset
    ∙ ap
    (λ b. set old.blocks.items b (overwritten (get_or old.blocks.items b []) (256 * (node % 16) + 16 * place) (spelling key)))
    (block ∙ count)

-- one block is written
pub block_changed : (old new : Ram) (number : ℕ) (bytes : List ℕ) → number < length old.blocks → new ≡ with_block old number bytes → ChangesBlock old.blocks new.blocks number
block_changed old new number bytes h e =
    let same : new.blocks ≡ set old.blocks number bytes = ap (λ r. r.blocks) e in
    same ∙ set-changes_block old.blocks number bytes h ∙ ap (λ b. set old.blocks number (get_or b number [])) (sym same)

-- the block that is written is marked
marked : (dirty : List Bool) (number block : ℕ) → number < length dirty → get_or (set dirty number true) block false ≡ false → block ≢ number
marked dirty number block h clear same =
    let mark = get_or-set_same dirty number true false h in
    let at : get_or (set dirty number true) number false ≡ false =
    ap (λ k. get_or (set dirty number true) k false) (sym same) ∙ clear
    in let contra : true ≡ false = sym mark ∙ at in cc

pub written_keeps : (old new : Ram) (number : ℕ) (bytes : List ℕ) → number < length old.dirty → new ≡ with_block old number bytes → KeepsMarks old new
written_keeps old new number bytes h e =
    let dirty : new.dirty ≡ set old.dirty number true = ap (λ r. r.dirty) e in
    let blocks : new.blocks ≡ set old.blocks number bytes = ap (λ r. r.blocks) e in
    record {
      unmarked =
          λ block clear.
          let c : get_or (set old.dirty number true) block false ≡ false =
          ap (λ d. get_or d block false) (sym dirty) ∙ clear
          in
          sym (get_or-set_other old.dirty number block true false (marked old.dirty number block h c)) ∙ c;
      same =
          λ block clear.
          let c : get_or (set old.dirty number true) block false ≡ false =
          ap (λ d. get_or d block false) (sym dirty) ∙ clear
          in
          ap (λ b. get_or b block []) blocks
          ∙ get_or-set_other old.blocks number block bytes [] (marked old.dirty number block h c);
    }
