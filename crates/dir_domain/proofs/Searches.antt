-- Places are searched page by page.
use Rattle.std.proofs.Common.{◌≡◌, ℕ, zero, suc, ◌+◌, ◌*◌, ◌/◌, ◌<◌, ◌≤◌, Bool, true, false, Option, Some, None, List, length, refl, ap, ap₂, sym, ◌∙◌, arith, add-zero, inl, inr, ⊎_elim, ◌⊎◌}
use Rattle.std.specs.Prelude.{option_map, ◌%◌, if◌then◌else◌, is_some, is_none}
use Rattle.kn_base.specs.Rows.{part_at}
use Rattle.unix_model.specs.Files.{place_inode}
use Rattle.unix_model.specs.Memory.{Memory}
use Rattle.unix_model.specs.Tables.{at, least_below, option_or}
use Rattle.unix_model.proofs.TableLaws.{least_below-zero}
use Rattle.file_tables.proofs.LeastLaws.{least_stays}
use Rattle.kernel_machine.specs.Contents.{file_in, mapped_bytes, place_in}
use Rattle.file_trees.proofs.Contents.{piece_here}
use Rattle.dir_domain.specs.Places.{numbered_place, has_name, is_hole}

-- ---- the least number, from a front and what is behind it

or-step : (before : Option ℕ) (m n : ℕ) (here : Bool) (behind : Option ℕ)
    → option_or (option_or before (option_map (λ k. m + k) behind)) (if here then Some (m + n) else None)
    ≡ option_or before (option_map (λ k. m + k) (option_or behind (if here then Some n else None)))
or-step (Some k) m n here behind = refl
or-step None m n here (Some j) = refl
or-step None m n true None = refl
or-step None m n false None = refl

or-nothing : (x : Option ℕ) → x ≡ option_or x None
or-nothing None = refl
or-nothing (Some k) = refl

pub least-behind : (test other : ℕ → Bool) (m n : ℕ) → ((k : ℕ) → k < n → test (m + k) ≡ other k)
    → least_below test (m + n) ≡ option_or (least_below test m) (option_map (λ k. m + k) (least_below other n))
unfolding least_below
least-behind test other m zero same = ap (least_below test) (add-zero m) ∙ or-nothing (least_below test m)
least-behind test other m (suc n) same =
    let next : m + suc n ≡ suc (m + n) = omega arith in
    ap (least_below test) next
    ∙ ap₂ (λ before here. option_or before (if here then Some (m + n) else None)) (least-behind test other m n (λ k below. same k (omega arith))) (same n (omega arith))
    ∙ or-step (least_below test m) m n (other n) (least_below other n)

or-some : (before : Option ℕ) (here : Bool) (n k : ℕ) → option_or before (if here then Some n else None) ≡ Some k → (before ≡ Some k) ⊎ (k ≡ n)
or-some (Some j) here n k e = inl e
or-some None true n k e = inr (let same : n ≡ k = cc in sym same)
or-some None false n k e = absurd (cc)

-- the least number lies below the limit
pub least-inside : (test : ℕ → Bool) (n k : ℕ) → least_below test n ≡ Some k → k < n
unfolding least_below
least-inside test zero k e = absurd (let no : None ≡ Some k = e in cc)
least-inside test (suc n) k e = ⊎_elim
    (λ (before : least_below test n ≡ Some k). let below = least-inside test n k before in omega arith)
    (λ (here : k ≡ n). omega arith)
    (or-some (least_below test n) (test n) n k e)

-- .. as is one that was found
pub found-inside : (test : ℕ → Bool) (n k : ℕ) → Some k ≡ least_below test n → k < n
found-inside test n k e = least-inside test n k (sym e)

-- nothing was searched yet
pub least-of-none : (test : ℕ → Bool) (n : ℕ) → n ≡ 0 → least_below test n ≡ None
least-of-none test n none = ap (least_below test) none ∙ least_below-zero test

-- ---- places of a page

pub place-here : (memory : Memory) → ((number : ℕ) → length (mapped_bytes (at memory number)) ≡ 4096) → (size page k : ℕ) → k < 128 → 32 * (128 * page + k) + 32 ≤ size
    → numbered_place (file_in memory size) (128 * page + k) ≡ numbered_place (mapped_bytes (at memory page)) k
place-here memory whole size page k below within =
    let number : 32 * (128 * page + k) / 4096 ≡ page = omega arith in
    let place : 32 * (128 * page + k) % 4096 ≡ 32 * k = omega arith in
    ap place_in
    (sym (piece_here memory whole size (32 * (128 * page + k)) 32 (omega arith) within)
    ∙ ap₂ (λ n i. part_at (mapped_bytes (at memory n)) i 32) number place)

-- one page more was searched for a name, ..
pub named-so-far : (memory : Memory) (name page_bytes : List ℕ) → ((number : ℕ) → length (mapped_bytes (at memory number)) ≡ 4096) → (size page count here : ℕ) (found : Option ℕ)
    → page_bytes ≡ mapped_bytes (at memory page) → here ≤ 128 → 128 * page + here ≤ count → 32 * count ≤ size
    → least_below (has_name name (file_in memory size)) (128 * page) ≡ None
    → found ≡ least_below (has_name name page_bytes) here
    → least_below (has_name name (file_in memory size)) (128 * page + here) ≡ option_map (λ k. 128 * page + k) found
unfolding has_name
named-so-far memory name page_bytes whole size page count here found is few within fits before e =
    least-behind (has_name name (file_in memory size)) (has_name name page_bytes) (128 * page) here
    (λ k below. ap (λ place. is_some (place_inode name place)) (place-here memory whole size page k (omega arith) (omega arith) ∙ ap (λ bytes. numbered_place bytes k) (sym is)))
    ∙ ap (λ x. option_or x (option_map (λ k. 128 * page + k) (least_below (has_name name page_bytes) here))) before
    ∙ ap (option_map (λ k. 128 * page + k)) (sym e)

-- .. and so far as the pages go: what was searched before, and what is searched next
pub named-next : (memory : Memory) (name page_bytes : List ℕ) → ((number : ℕ) → length (mapped_bytes (at memory number)) ≡ 4096) → (size page count here : ℕ) (found : Option ℕ)
    → page_bytes ≡ mapped_bytes (at memory page) → here ≤ 128 → 128 * page + here ≤ count → 32 * count ≤ size
    → (before next : ℕ) → before ≡ 128 * page → next ≡ 128 * page + here → least_below (has_name name (file_in memory size)) before ≡ None
    → found ≡ least_below (has_name name page_bytes) here → least_below (has_name name (file_in memory size)) next ≡ option_map (λ k. 128 * page + k) found
named-next memory name page_bytes whole size page count here found is few within fits before next so_far next_is none e =
    ap (least_below (has_name name (file_in memory size))) next_is
    ∙ named-so-far memory name page_bytes whole size page count here found is few within fits (sym (ap (least_below (has_name name (file_in memory size))) so_far) ∙ none) e

-- .. the first one of a page, once no page before it has one
pub named-first : (memory : Memory) (name page_bytes : List ℕ) → ((number : ℕ) → length (mapped_bytes (at memory number)) ≡ 4096) → (size page count here k : ℕ)
    → page_bytes ≡ mapped_bytes (at memory page) → here ≤ 128 → 128 * page + here ≤ count → 32 * count ≤ size
    → (before : ℕ) → before ≡ 128 * page → least_below (has_name name (file_in memory size)) before ≡ None
    → Some k ≡ least_below (has_name name page_bytes) here → Some (128 * page + k) ≡ least_below (has_name name (file_in memory size)) count
named-first memory name page_bytes whole size page count here k is few within fits before so_far none e =
    sym
    (least_stays (has_name name (file_in memory size)) (128 * page + here) (128 * page + k) count within
    (named-next memory name page_bytes whole size page count here (Some k) is few within fits before (128 * page + here) so_far refl none e))

-- .. or for a hole
pub holes-so-far : (memory : Memory) (page_bytes : List ℕ) → ((number : ℕ) → length (mapped_bytes (at memory number)) ≡ 4096) → (size page count here : ℕ) (found : Option ℕ)
    → page_bytes ≡ mapped_bytes (at memory page) → here ≤ 128 → 128 * page + here ≤ count → 32 * count ≤ size
    → least_below (is_hole (file_in memory size)) (128 * page) ≡ None
    → found ≡ least_below (is_hole page_bytes) here
    → least_below (is_hole (file_in memory size)) (128 * page + here) ≡ option_map (λ k. 128 * page + k) found
unfolding is_hole
holes-so-far memory page_bytes whole size page count here found is few within fits before e =
    least-behind (is_hole (file_in memory size)) (is_hole page_bytes) (128 * page) here
    (λ k below. ap is_none (place-here memory whole size page k (omega arith) (omega arith) ∙ ap (λ bytes. numbered_place bytes k) (sym is)))
    ∙ ap (λ x. option_or x (option_map (λ k. 128 * page + k) (least_below (is_hole page_bytes) here))) before
    ∙ ap (option_map (λ k. 128 * page + k)) (sym e)

-- .. and so far as the pages go: what was searched before, and what is searched next
pub holes-next : (memory : Memory) (page_bytes : List ℕ) → ((number : ℕ) → length (mapped_bytes (at memory number)) ≡ 4096) → (size page count here : ℕ) (found : Option ℕ)
    → page_bytes ≡ mapped_bytes (at memory page) → here ≤ 128 → 128 * page + here ≤ count → 32 * count ≤ size
    → (before next : ℕ) → before ≡ 128 * page → next ≡ 128 * page + here → least_below (is_hole (file_in memory size)) before ≡ None
    → found ≡ least_below (is_hole page_bytes) here → least_below (is_hole (file_in memory size)) next ≡ option_map (λ k. 128 * page + k) found
holes-next memory page_bytes whole size page count here found is few within fits before next so_far next_is none e =
    ap (least_below (is_hole (file_in memory size))) next_is
    ∙ holes-so-far memory page_bytes whole size page count here found is few within fits (sym (ap (least_below (is_hole (file_in memory size))) so_far) ∙ none) e

-- .. the first one of a page, once no page before it has one
pub holes-first : (memory : Memory) (page_bytes : List ℕ) → ((number : ℕ) → length (mapped_bytes (at memory number)) ≡ 4096) → (size page count here k : ℕ)
    → page_bytes ≡ mapped_bytes (at memory page) → here ≤ 128 → 128 * page + here ≤ count → 32 * count ≤ size
    → (before : ℕ) → before ≡ 128 * page → least_below (is_hole (file_in memory size)) before ≡ None
    → Some k ≡ least_below (is_hole page_bytes) here → Some (128 * page + k) ≡ least_below (is_hole (file_in memory size)) count
holes-first memory page_bytes whole size page count here k is few within fits before so_far none e =
    sym
    (least_stays (is_hole (file_in memory size)) (128 * page + here) (128 * page + k) count within
    (holes-next memory page_bytes whole size page count here (Some k) is few within fits before (128 * page + here) so_far refl none e))
