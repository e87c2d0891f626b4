-- What a write to a part of a block leaves.
use Rattle.std.proofs.Common.{◌≡◌, ℕ, ◌+◌, ◌<◌, ◌≤◌, true, List, [], ◌++◌, length, take, drop, get_or, set, ap, sym, ◌∙◌, append_assoc, [], arith, replicate, ⊎_elim}
use Rattle.std.proofs.lemmas.List.{drop-drop, get_or_default, get_or_past, get_or-replicate, length-replicate}
use Rattle.std.proofs.lemmas.Bool.{cases_lt}
use Rattle.kn_base.specs.Rows.{overwritten}
use Rattle.kn_base.specs.Memory.{zero_page}
use Rattle.kn_base.proofs.MemoryLaws.{length-zero_page, get_or-zero_page}
use Rattle.obj_store.specs.Ram.{Ram, with_block}

-- the parts of a block after a write, as `overwritten`
part_written : (old new from : List ℕ) (at n : ℕ) → new ≡ from → n ≡ length from → take at old ++ (new ++ drop n (drop at old)) ≡ overwritten old at from
unfolding overwritten
part_written old new from at n e size =
    ap (λ part. take at old ++ (part ++ drop n (drop at old))) e
    ∙ ap (λ k. take at old ++ (from ++ drop k (drop at old))) size
    ∙ ap (λ rest. take at old ++ (from ++ rest)) (drop-drop (length from) at old)
    ∙ sym (append_assoc (take at old) from (drop (at + length from) old))

-- a block that was read, of which a part was written, and that was marked
pub block_written : (ram : Ram) (number at : ℕ) (old new from : List ℕ) (n : ℕ) → old ≡ get_or ram.blocks number old → number < length ram.blocks → new ≡ from → n ≡ length from → record ram { blocks = set ram.blocks number (take at old ++ (new ++ drop n (drop at old))); dirty = set ram.dirty number true } ≡ with_block ram number (overwritten (get_or ram.blocks number []) at from)
block_written ram number at old new from n read inside e size =
    ap (with_block ram number)
    (part_written old new from at n e size
    ∙ ap (λ block. overwritten block at from) (read ∙ get_or_default ram.blocks number old [] inside))

-- blocks of zeros are whole blocks of bytes
pub zero_blocks-whole : (n : ℕ) (blocks : List (List ℕ)) → blocks ≡ replicate n zero_page → (block : ℕ) → block < length blocks → length (get_or blocks block []) ≡ 4096
zero_blocks-whole n blocks e block h =
    let inside : block < n = omega (arith, ap length e ∙ length-replicate n zero_page) in
    ap (λ list. length (get_or list block [])) e
    ∙ ap length (get_or-replicate n block zero_page [] inside)
    ∙ length-zero_page

zero_blocks-zero : (n block place : ℕ) → get_or (get_or (replicate n zero_page) block []) place 0 ≡ 0
zero_blocks-zero n block place =
    ⊎_elim
    (λ (inside : block < n).
    ap (λ bytes. get_or bytes place 0) (get_or-replicate n block zero_page [] inside) ∙ get_or-zero_page place)
    (λ (past : n ≤ block).
    ap (λ (bytes : List ℕ). get_or bytes place 0)
    (get_or_past (replicate n zero_page) block [] (omega (arith, length-replicate n zero_page))))
    (cases_lt block n)

pub zero_blocks-bytes : (n : ℕ) (blocks : List (List ℕ)) → blocks ≡ replicate n zero_page → (block place : ℕ) → get_or (get_or blocks block []) place 0 < 256
zero_blocks-bytes n blocks e block place =
    let zero_byte : get_or (get_or blocks block []) place 0 ≡ 0 =
    ap (λ list. get_or (get_or list block []) place 0) e ∙ zero_blocks-zero n block place
    in omega arith
