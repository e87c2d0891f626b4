-- The bytes of a file, read page by page.
use Rattle.std.proofs.Common.{◌≡◌, ℕ, zero, suc, ◌+◌, ◌-◌, ◌*◌, ◌/◌, ◌%◌, ◌<◌, ◌≤◌, List, ◌++◌, length, take, drop, get_or, ap, sym, ◌∙◌, arith, ⊎_elim}
use Rattle.std.proofs.Math.Seq.{take-add, drop-drop}
use Rattle.std.proofs.lemmas.Bool.{cases_lt}
use Rattle.std.proofs.lemmas.List.{same_lists, get_or-take, get_or-drop, get_or_append_left, get_or-append_right}
use Rattle.std.proofs.lemmas.Slice.{take-put_mid}
use borrow.Rule.Slice.PartMut.{put_mid}
use Rattle.kn_base.specs.Rows.{part_at}
use Rattle.kn_base.proofs.RowLaws.{length-part_at}
use Rattle.unix_model.specs.Memory.{Memory}
use Rattle.unix_model.specs.Numbers.{pages_of}
use Rattle.kernel_machine.specs.Contents.{pages_in, file_in}
use Rattle.kernel_machine.proofs.PagesHeld.{pages-long, file-long}
use Rattle.file_trees.specs.Trees.{tree_page}

-- each page has its 4,096 bytes
abbrev pub WholeTree : Memory → Type 0
WholeTree memory = (number : ℕ) → length (tree_page memory number) ≡ 4096

-- a byte of a part
pub part_get : (xs : List ℕ) (place n k d : ℕ) → k < n → get_or (part_at xs place n) k d ≡ get_or xs (place + k) d
part_get xs place n k d below = get_or-take n (drop place xs) k d below ∙ get_or-drop place xs k d

-- a byte of pages that stand one behind the other
pub pages_get : (memory : Memory) → WholeTree memory → (n i d : ℕ) → i < 4096 * n → get_or (pages_in memory n) i d ≡ get_or (tree_page memory (i / 4096)) (i % 4096) d
unfolding pages_in
pages_get memory whole zero i d below = absurd (omega arith)
pages_get memory whole (suc n) i d below =
    let long : length (pages_in memory n) ≡ 4096 * n = pages-long memory whole n in
    ⊎_elim
    (λ (t : i < 4096 * n). get_or_append_left (pages_in memory n) (tree_page memory n) d i (omega (arith, long)) ∙ pages_get memory whole n i d t)
    (λ (t : 4096 * n ≤ i).
    let number : i / 4096 ≡ n = omega arith in
    let place : i - 4096 * n ≡ i % 4096 = omega arith in
    get_or-append_right (pages_in memory n) (tree_page memory n) (4096 * n) i d long t
    ∙ ap (λ k. get_or (tree_page memory n) k d) place
    ∙ ap (λ k. get_or (tree_page memory k) (i % 4096) d) (sym number))
    (cases_lt i (4096 * n))

-- a byte of a file
pub file_get : (memory : Memory) → WholeTree memory → (size i d : ℕ) → i < size → get_or (file_in memory size) i d ≡ get_or (tree_page memory (i / 4096)) (i % 4096) d
unfolding file_in
file_get memory whole size i d below =
    get_or-take size (pages_in memory (pages_of size)) i d below ∙ pages_get memory whole (pages_of size) i d (omega arith)

-- bytes of a file that lie in one page
pub piece_here : (memory : Memory) → WholeTree memory → (size place n : ℕ) → place % 4096 + n ≤ 4096 → place + n ≤ size
    → part_at (tree_page memory (place / 4096)) (place % 4096) n ≡ part_at (file_in memory size) place n
piece_here memory whole size place n inside within =
    let short : length (part_at (tree_page memory (place / 4096)) (place % 4096) n) ≡ n
    = length-part_at (tree_page memory (place / 4096)) (place % 4096) n (omega (arith, whole (place / 4096))) in
    let long : length (part_at (file_in memory size) place n) ≡ n = length-part_at (file_in memory size) place n (omega (arith, file-long memory whole size)) in
    same_lists _ _ (short ∙ sym long)
    (λ k d l.
    let below : k < n = omega (arith, short) in
    let number : (place + k) / 4096 ≡ place / 4096 = omega arith in
    let in_page : (place + k) % 4096 ≡ place % 4096 + k = omega arith in
    part_get (tree_page memory (place / 4096)) (place % 4096) n k d below
    ∙ sym
    (part_get (file_in memory size) place n k d below
    ∙ file_get memory whole size (place + k) d (omega arith)
    ∙ ap (λ i. get_or (tree_page memory i) ((place + k) % 4096) d) number
    ∙ ap (λ i. get_or (tree_page memory (place / 4096)) i d) in_page))

-- .. so a piece that was read of a page is one of the file
pub piece_read : (memory : Memory) → WholeTree memory → (piece : List ℕ) (size place n : ℕ) → piece ≡ part_at (tree_page memory (place / 4096)) (place % 4096) n → place % 4096 + n ≤ 4096 → place + n ≤ size
    → piece ≡ part_at (file_in memory size) place n
piece_read memory whole piece size place n read inside within = read ∙ piece_here memory whole size place n inside within

-- a part behind a part
pub part_more : (xs : List ℕ) (place n m : ℕ) → part_at xs place (n + m) ≡ part_at xs place n ++ part_at xs (place + n) m
part_more xs place n m = take-add n m (drop place xs) ∙ ap (λ rest. take n (drop place xs) ++ take m rest) (drop-drop n place xs)

-- what has been read once a piece was put behind what was there
pub piece_put : (file old piece : List ℕ) (place done end count : ℕ) → done ≤ end → end ≤ length old → count ≡ end - done → length piece ≡ count
    → take done old ≡ part_at file place done → piece ≡ part_at file (place + done) count
    → take end (put_mid done (end - done) old piece) ≡ part_at file place end
piece_put file old piece place done end count order within is long before here =
    let all : done + (end - done) ≡ end = omega arith in
    take-put_mid done (end - done) old piece end (omega arith) (omega arith)
    ∙ ap (λ front. front ++ piece) before
    ∙ ap (λ back. part_at file place done ++ back) (here ∙ ap (part_at file (place + done)) is)
    ∙ sym (part_more file place done (end - done))
    ∙ ap (part_at file place) all
