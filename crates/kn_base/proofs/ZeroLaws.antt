-- What a store of zeros holds: its sizes, its keys, and the rows of its tables.
use Rattle.std.proofs.Common.{◌≡◌, ℕ, ◌+◌, ◌-◌, ◌*◌, ◌<◌, ◌≤◌, zero, suc, Option, Some, None, List, ◌++◌, length, take, ap, sym, ◌∙◌, arith, replicate}
use Rattle.std.proofs.Math.Nat.{mul-le-mul_left, mul-suc, mul-zero}
use Rattle.std.proofs.lemmas.List.{same_lists, length-replicate, get_or-replicate, take-replicate, drop-replicate, replicate-append-replicate}
use Rattle.kn_base.specs.declared.key.Key.{Key}
use Rattle.kn_base.specs.declared.key.Key.TheVariants.{Null}
use Rattle.kn_base.specs.Rows.{part_at, rows, table, table_at}
use Rattle.kn_base.specs.Memory.{zero_page, zero_memory, key_at}
use Rattle.kn_base.proofs.RowLaws.{length-rows, get_or-rows}

pub length-zero_memory_pages : (pages nodes : ℕ) → length (zero_memory pages nodes).pages ≡ pages
unfolding zero_memory
length-zero_memory_pages pages nodes = length-replicate pages zero_page

pub length-zero_memory_keys : (pages nodes : ℕ) → length (zero_memory pages nodes).keys ≡ 16 * nodes
unfolding zero_memory
length-zero_memory_keys pages nodes = length-replicate {A = Option Key} (16 * nodes) (Some Null)

-- each key is Null
pub key_at-zero_memory : (pages nodes node place : ℕ) → node < nodes → place < 16 → key_at (zero_memory pages nodes) node place ≡ Some Null
unfolding zero_memory
key_at-zero_memory pages nodes node place h low =
    get_or-replicate {A = Option Key} (16 * nodes) (16 * node + place) (Some Null) None (omega arith)

-- a part of a page of zeros
pub part_at-zero_page : (at size : ℕ) → at + size ≤ 4096 → part_at zero_page at size ≡ replicate size 0
unfolding zero_page
part_at-zero_page at size h =
    ap (take size) (drop-replicate at 4096 0) ∙ take-replicate size (4096 - at) 0 (omega arith)

-- each row of a page of zeros is what zeros stand for
rows-zero_page : {X : Type 0} (decode : List ℕ → X) (size per_page : ℕ) → size * per_page ≡ 4096 → rows decode size per_page zero_page ≡ replicate per_page (decode (replicate size 0))
rows-zero_page decode size per_page whole =
    let each = decode (replicate size 0) in
    same_lists (rows decode size per_page zero_page) (replicate per_page each)
    (length-rows decode size per_page zero_page ∙ sym (length-replicate per_page each))
    (λ k d h.
    let inside : k < per_page = omega (arith, length-rows decode size per_page zero_page) in
    let next : k + 1 ≤ per_page = omega arith in
    let fits : size * k + size ≤ 4096 = omega (arith, mul-le-mul_left {m = k + 1} {n = per_page} size next) in
    get_or-rows decode size per_page zero_page k d inside
    ∙ ap decode (part_at-zero_page (size * k) size fits)
    ∙ sym (get_or-replicate per_page k each d inside))

-- likewise of several
pub table-zeros : {X : Type 0} (decode : List ℕ → X) (size per_page count : ℕ) → size * per_page ≡ 4096 → table decode size per_page (replicate count zero_page) ≡ replicate (per_page * count) (decode (replicate size 0))
unfolding table
table-zeros decode size per_page zero whole = ap (λ n. replicate n (decode (replicate size 0))) (sym (mul-zero per_page))
table-zeros decode size per_page (suc count) whole =
    let each = decode (replicate size 0) in
    ap (λ first. first ++ table decode size per_page (replicate count zero_page)) (rows-zero_page decode size per_page whole)
    ∙ ap (λ rest. replicate per_page each ++ rest) (table-zeros decode size per_page count whole)
    ∙ replicate-append-replicate per_page (per_page * count) each
    ∙ ap (λ n. replicate n each) (omega (arith, mul-suc per_page count))

-- a table in a store of zeros
pub table_at-zeros : {X : Type 0} (decode : List ℕ → X) (size per_page first count pages nodes : ℕ) → size * per_page ≡ 4096 → first + count ≤ pages → table_at decode size per_page first count (zero_memory pages nodes).pages ≡ replicate (per_page * count) (decode (replicate size 0))
unfolding table_at zero_memory
table_at-zeros decode size per_page first count pages nodes whole inside =
    ap (λ list. table decode size per_page (take count list)) (drop-replicate first pages zero_page)
    ∙ ap (table decode size per_page) (take-replicate count (pages - first) zero_page (omega arith))
    ∙ table-zeros decode size per_page count whole

-- for a function that begins with a store of zeros
pub ruleset zeros = (length-zero_memory_pages, length-zero_memory_keys, key_at-zero_memory, table_at-zeros)
