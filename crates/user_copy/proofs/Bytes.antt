-- Bytes that are written into flat memory: in one page, and one range behind another.
use Rattle.std.proofs.Common.{◌≡◌, ◌≢◌, ◌<◌, ◌≤◌, ◌+◌, ◌*◌, ◌/◌, ◌%◌, ℕ, zero, suc, Bool, true, false, ◌&&◌, Option, Some, None, List, [], ◌∷◌, ◌++◌, length, take, drop, set, refl, ap, sym, ◌∙◌, arith, add-zero, append_assoc, length-set, ⊎_elim}
use Rattle.std.specs.Prelude.{option_map}
use Rattle.std.specs.Option.{unwrap_or}
use Rattle.std.proofs.lemmas.Bool.{cases_eq}
use Rattle.std.proofs.lemmas.List.{take_more_set, drop-set-lt}
use Rattle.kn_base.specs.Rows.{overwritten}
use Rattle.kn_base.proofs.RowLaws.{overwritten-none}
use Rattle.unix_model.specs.Memory.{Memory, Page, page_with_byte, with_byte, with_bytes, is_writable, all_writable}
use Rattle.unix_model.specs.Tables.{at, with_at}
use Rattle.unix_model.proofs.TableLaws.{at-with_at, at-with_at-other, with_at-same, with_at-twice}

overwritten-first : (xs : List ℕ) (k x : ℕ) (part : List ℕ) → k < length xs → overwritten (set xs k x) (k + 1) part ≡ overwritten xs k (x ∷ part)
unfolding overwritten
overwritten-first xs k x part inside =
    let place : k + 1 + length part ≡ k + suc (length part) = omega arith in
    let past : k < k + 1 + length part = omega arith in
    ap (λ front. front ++ part ++ drop (k + 1 + length part) (set xs k x)) (take_more_set xs k x inside)
    ∙ ap (λ front. front ++ drop (k + 1 + length part) (set xs k x)) (append_assoc (take k xs) (x ∷ []) part)
    ∙ ap (λ back. take k xs ++ (x ∷ part) ++ back) (drop-set-lt (k + 1 + length part) xs k x past ∙ ap (λ n. drop n xs) place)

byte_put : (memory : Memory) (n k : ℕ) (page : Page) (byte : ℕ) → at memory n ≡ Some page → k < 4096 → with_byte memory (4096 * n + k) byte ≡ with_at memory n (Some (page_with_byte k byte page))
unfolding with_byte
byte_put memory n k page byte e below =
    let number : (4096 * n + k) / 4096 ≡ n = omega arith in
    let place : (4096 * n + k) % 4096 ≡ k = omega arith in
    rw (number, place, e) refl

bytes_in : (memory : Memory) (n k : ℕ) (page : Page) (bytes : List ℕ) → at memory n ≡ Some page → length page.bytes ≡ 4096 → k + length bytes ≤ 4096
    → with_bytes memory (4096 * n + k) bytes ≡ with_at memory n (Some (record page { bytes = overwritten page.bytes k bytes }))
unfolding with_bytes
bytes_in memory n k page [] e whole inside =
    sym (ap (λ (xs : List ℕ). with_at memory n (Some (record page { bytes = xs }))) (overwritten-none page.bytes k) ∙ with_at-same memory n (Some page) e)
bytes_in memory n k page (byte ∷ bytes) e whole inside =
    let first : with_byte memory (4096 * n + k) byte ≡ with_at memory n (Some (page_with_byte k byte page)) = byte_put memory n k page byte e (omega arith) in
    let next : 4096 * n + k + 1 ≡ 4096 * n + (k + 1) = omega arith in
    ap (λ (m : Memory). with_bytes m (4096 * n + k + 1) bytes) first
    ∙ ap (λ a. with_bytes (with_at memory n (Some (page_with_byte k byte page))) a bytes) next
    ∙ bytes_in (with_at memory n (Some (page_with_byte k byte page))) n (k + 1) (page_with_byte k byte page) bytes
    (at-with_at memory n (Some (page_with_byte k byte page))) (length-set page.bytes k byte ∙ whole) (omega arith)
    ∙ with_at-twice memory n (Some (page_with_byte k byte page)) (Some (record page { bytes = overwritten (set page.bytes k byte) (k + 1) bytes }))
    ∙ ap (λ (xs : List ℕ). with_at memory n (Some (record page { bytes = xs }))) (overwritten-first page.bytes k byte bytes (omega arith))

-- bytes that lie in one page
pub bytes_put : (memory : Memory) (address : ℕ) (page : Page) (bytes : List ℕ) → at memory (address / 4096) ≡ Some page → length page.bytes ≡ 4096 → address % 4096 + length bytes ≤ 4096
    → with_bytes memory address bytes ≡ with_at memory (address / 4096) (Some (record page { bytes = overwritten page.bytes (address % 4096) bytes }))
bytes_put memory address page bytes e whole inside =
    let split : address ≡ 4096 * (address / 4096) + address % 4096 = omega arith in
    ap (λ a. with_bytes memory a bytes) split ∙ bytes_in memory (address / 4096) (address % 4096) page bytes e whole inside

-- one range behind another
pub bytes_put_more : (memory : Memory) (address : ℕ) (first rest : List ℕ) → with_bytes memory address (first ++ rest) ≡ with_bytes (with_bytes memory address first) (address + length first) rest
unfolding with_bytes
bytes_put_more memory address [] rest = ap (λ a. with_bytes memory a rest) (sym (add-zero address))
bytes_put_more memory address (byte ∷ first) rest =
    let next : address + 1 + length first ≡ address + suc (length first) = omega arith in
    bytes_put_more (with_byte memory address byte) (address + 1) first rest
    ∙ ap (λ a. with_bytes (with_bytes (with_byte memory address byte) (address + 1) first) a rest) next

-- each byte of a range that may be written may be
pub each_may : (memory : Memory) (address n i : ℕ) → all_writable memory address n ≡ true → i < n → is_writable memory (address + i) ≡ true
unfolding all_writable
each_may memory address zero i e below = absurd (omega arith)
each_may memory address (suc n) i e below = ⊎_elim
    (λ (t : i ≡ n). ap (λ k. is_writable memory (address + k)) t ∙ (both (all_writable memory address n) (is_writable memory (address + n)) e).1)
    (λ (t : i ≡ n → ⊥). each_may memory address n i (both (all_writable memory address n) (is_writable memory (address + n)) e).0 (omega arith))
    (cases_eq i n)
  where
    both : (a b : Bool) → (a && b) ≡ true → (a ≡ true) × (b ≡ true)
    both true true h = (refl, refl)
    both true false h = absurd (let no : false ≡ true = h in cc)
    both false b h = absurd (let no : false ≡ true = h in cc)

-- .. and a range of such bytes may be written
pub all_may : (memory : Memory) (address n : ℕ) → ((i : ℕ) → i < n → is_writable memory (address + i) ≡ true) → all_writable memory address n ≡ true
unfolding all_writable
all_may memory address zero each = refl
all_may memory address (suc n) each = rw (all_may memory address n (λ i below. each i (omega arith)), each n (omega arith)) refl

-- a byte that may be written lies on a mapped page that is writable
pub record Writable (memory : Memory) (number : ℕ) : Type 0 where
  pub page : Page
  pub mapped : at memory number ≡ Some page
  pub may : page.writable ≡ true

pub page_may : (memory : Memory) (address : ℕ) → is_writable memory address ≡ true → Writable memory (address / 4096)
unfolding is_writable
page_may memory address e = go (at memory (address / 4096)) refl e
  where
    go : (found : Option Page) → at memory (address / 4096) ≡ found → unwrap_or (option_map (λ (page : Page). page.writable) found) false ≡ true → Writable memory (address / 4096)
    go None is h = absurd (let no : false ≡ true = h in cc)
    go (Some page) is h = record { page = page; mapped = is; may = h }

-- what may be written doesn't change where another page does
pub may_elsewhere : (memory : Memory) (number address : ℕ) (page : Option Page) → address / 4096 ≢ number → is_writable (with_at memory number page) address ≡ is_writable memory address
unfolding is_writable
may_elsewhere memory number address page apart = ap (λ found. unwrap_or (option_map (λ (page : Page). page.writable) found) false) (at-with_at-other memory number (address / 4096) page apart)
