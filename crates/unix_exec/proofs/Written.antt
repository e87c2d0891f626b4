-- A memory by its pages and its bytes, and bytes written into it.
use Rattle.std.proofs.Common.{◌≡◌, ◌≢◌, ◌<◌, ◌≤◌, ◌+◌, ◌-◌, ◌*◌, ◌/◌, ◌%◌, ℕ, zero, suc, Bool, true, false, Option, Some, None, List, [], ◌∷◌, ◌++◌, length, set, replicate, refl, ap, sym, ◌∙◌, arith, ⊎_elim, add-one, length-append}
use Rattle.std.proofs.Math.Path.{fun_ext}
use Rattle.std.proofs.Math.Seq.{set-append_seam}
use Rattle.std.proofs.lemmas.Bool.{cases_eq}
use Rattle.std.proofs.lemmas.List.{set-append_left, replicate-append-replicate}
use Rattle.std.specs.Prelude.{option_map, slice_index, if◌then◌else◌}
use Rattle.unix_model.specs.Memory.{Memory, Page, page_with_byte, with_byte, with_bytes}
use Rattle.unix_model.specs.Tables.{at, with_at, tabulate}
use Rattle.unix_model.proofs.TableLaws.{at-with_at, at-with_at-other}

-- the memory whose pages and writable pages are told by tests, and whose bytes by a function of their addresses
unfoldable pub paged : (ℕ → Bool) → (ℕ → Bool) → (ℕ → ℕ) → Memory
paged mapped writable byte = λ page. if mapped page then Some (record { writable = writable page; bytes = tabulate (λ place. byte (4096 * page + place)) 4096 }) else None

-- ---- tabulated lists

length-tabulate : (f : ℕ → ℕ) (n : ℕ) → length (tabulate f n) ≡ n
unfolding tabulate
length-tabulate f zero = refl
length-tabulate f (suc n) = omega (arith, length-append (tabulate f n) (f n ∷ []), length-tabulate f n)

pub tabulate_same : (f g : ℕ → ℕ) (n : ℕ) → ((i : ℕ) → i < n → f i ≡ g i) → tabulate f n ≡ tabulate g n
unfolding tabulate
tabulate_same f g zero same = refl
tabulate_same f g (suc n) same =
    ap (λ xs. xs ++ f n ∷ []) (tabulate_same f g n (λ i below. same i (omega arith)))
    ∙ ap (λ x. tabulate g n ++ x ∷ []) (same n (omega arith))

here_with : (f : ℕ → ℕ) (n x : ℕ) → with_at f n x n ≡ x
unfolding at
here_with f n x = at-with_at f n x

there_with : (f : ℕ → ℕ) (n k x : ℕ) → k ≢ n → with_at f n x k ≡ f k
unfolding at
there_with f n k x apart = at-with_at-other f n k x apart

tabulate_set : (f : ℕ → ℕ) (n k x : ℕ) → k < n → set (tabulate f n) k x ≡ tabulate (with_at f k x) n
unfolding tabulate
tabulate_set f zero k x below = absurd (omega arith)
tabulate_set f (suc n) k x below = ⊎_elim
    (λ (t : k ≡ n).
    ap (λ i. set (tabulate f n ++ f n ∷ []) i x) (t ∙ sym (length-tabulate f n))
    ∙ set-append_seam (tabulate f n) (f n) [] x
    ∙ ap (λ xs. xs ++ x ∷ []) (tabulate_same f (with_at f k x) n (λ i low. sym (there_with f k i x (λ e. absurd (omega arith)))))
    ∙ ap (λ y. tabulate (with_at f k x) n ++ y ∷ []) (sym (ap (with_at f k x) (sym t) ∙ here_with f k x)))
    (λ (t : k ≡ n → ⊥).
    let low : k < n = omega arith in
    set-append_left (tabulate f n) (f n ∷ []) k x (let long = length-tabulate f n in omega arith)
    ∙ ap (λ xs. xs ++ f n ∷ []) (tabulate_set f n k x low)
    ∙ ap (λ y. tabulate (with_at f k x) n ++ y ∷ []) (sym (there_with f k n x (λ e. t (sym e)))))
    (cases_eq k n)

pub tabulate_zeros : (n : ℕ) → replicate n 0 ≡ tabulate (λ place. 0) n
unfolding tabulate
tabulate_zeros zero = refl
tabulate_zeros (suc n) =
    ap (λ k. replicate k 0) (sym (add-one n)) ∙ sym (replicate-append-replicate n 1 0) ∙ ap (λ xs. xs ++ 0 ∷ []) (tabulate_zeros n)

-- ---- one byte

one_page : (mapped writable : Bool) (f g : ℕ → ℕ) (k x : ℕ) → set (tabulate f 4096) k x ≡ tabulate g 4096
    → option_map (page_with_byte k x) (if mapped then Some (record { writable = writable; bytes = tabulate f 4096 }) else None)
    ≡ (if mapped then Some (record { writable = writable; bytes = tabulate g 4096 }) else None)
one_page true writable f g k x e = ap (λ (bytes : List ℕ). let page : Page = record { writable = writable; bytes = bytes } in Some page) e
one_page false writable f g k x e = refl

same_page : (mapped writable : Bool) (f g : ℕ → ℕ) → ((i : ℕ) → i < 4096 → f i ≡ g i)
    → (let page : Option Page = if mapped then Some (record { writable = writable; bytes = tabulate f 4096 }) else None in page)
    ≡ (if mapped then Some (record { writable = writable; bytes = tabulate g 4096 }) else None)
same_page mapped writable f g same =
    ap (λ (bytes : List ℕ). let page : Option Page = if mapped then Some (record { writable = writable; bytes = bytes }) else None in page) (tabulate_same f g 4096 same)

-- the bytes of the page in which one is written
page_set : (f : ℕ → ℕ) (address x : ℕ)
    → set (tabulate (λ place. f (4096 * (address / 4096) + place)) 4096) (address % 4096) x ≡ tabulate (λ place. with_at f address x (4096 * (address / 4096) + place)) 4096
page_set f address x =
    tabulate_set (λ place. f (4096 * (address / 4096) + place)) 4096 (address % 4096) x (omega arith)
    ∙ tabulate_same (with_at (λ place. f (4096 * (address / 4096) + place)) (address % 4096) x) (λ place. with_at f address x (4096 * (address / 4096) + place)) 4096 (λ i below. ⊎_elim
    (λ (t : i ≡ address % 4096).
    let here : address ≡ 4096 * (address / 4096) + i = omega arith in
    ap (with_at (λ place. f (4096 * (address / 4096) + place)) (address % 4096) x) t
    ∙ here_with (λ place. f (4096 * (address / 4096) + place)) (address % 4096) x
    ∙ sym (here_with f address x)
    ∙ ap (with_at f address x) here)
    (λ (t : i ≡ address % 4096 → ⊥).
    there_with (λ place. f (4096 * (address / 4096) + place)) (address % 4096) i x t
    ∙ sym (there_with f address (4096 * (address / 4096) + i) x (λ e. absurd (omega arith))))
    (cases_eq i (address % 4096)))

module _ (mapped writable : ℕ → Bool) where
  with_byte_paged : (f : ℕ → ℕ) (address x : ℕ) → with_byte (paged mapped writable f) address x ≡ paged mapped writable (with_at f address x)
  unfolding with_byte paged at
  with_byte_paged f address x = fun_ext (λ page. ⊎_elim
      (λ (t : page ≡ address / 4096).
      ap (with_at (paged mapped writable f) (address / 4096) (option_map (page_with_byte (address % 4096) x) (paged mapped writable f (address / 4096)))) t
      ∙ at-with_at (paged mapped writable f) (address / 4096) (option_map (page_with_byte (address % 4096) x) (paged mapped writable f (address / 4096)))
      ∙ one_page (mapped (address / 4096)) (writable (address / 4096)) (λ place. f (4096 * (address / 4096) + place)) (λ place. with_at f address x (4096 * (address / 4096) + place)) (address % 4096) x (page_set f address x)
      ∙ ap (paged mapped writable (with_at f address x)) (sym t))
      (λ (t : page ≡ address / 4096 → ⊥).
      at-with_at-other (paged mapped writable f) (address / 4096) page (option_map (page_with_byte (address % 4096) x) (paged mapped writable f (address / 4096))) t
      ∙ same_page (mapped page) (writable page) (λ place. f (4096 * page + place)) (λ place. with_at f address x (4096 * page + place))
      (λ i below. sym (there_with f address (4096 * page + i) x (λ e. absurd (omega arith)))))
      (cases_eq page (address / 4096)))

-- ---- many bytes

-- the bytes once some are written from an address on
abbrev pub written : (ℕ → ℕ) → ℕ → List ℕ → ℕ → ℕ
written f address [] = f
written f address (byte ∷ bytes) = written (with_at f address byte) (address + 1) bytes

pub with_bytes_paged : (mapped writable : ℕ → Bool) (f : ℕ → ℕ) (address : ℕ) (bytes : List ℕ)
    → with_bytes (paged mapped writable f) address bytes ≡ paged mapped writable (written f address bytes)
unfolding with_bytes
with_bytes_paged mapped writable f address [] = refl
with_bytes_paged mapped writable f address (byte ∷ bytes) =
    ap (λ (memory : Memory). with_bytes memory (address + 1) bytes) (with_byte_paged mapped writable f address byte)
    ∙ with_bytes_paged mapped writable (with_at f address byte) (address + 1) bytes

pub written_below : (f : ℕ → ℕ) (address : ℕ) (bytes : List ℕ) (x : ℕ) → x < address → written f address bytes x ≡ f x
written_below f address [] x below = refl
written_below f address (byte ∷ bytes) x below =
    written_below (with_at f address byte) (address + 1) bytes x (omega arith) ∙ there_with f address x byte (λ e. absurd (omega arith))

pub written_past : (f : ℕ → ℕ) (address : ℕ) (bytes : List ℕ) (x : ℕ) → address + length bytes ≤ x → written f address bytes x ≡ f x
written_past f address [] x past = refl
written_past f address (byte ∷ bytes) x past =
    written_past (with_at f address byte) (address + 1) bytes x (omega arith) ∙ there_with f address x byte (λ e. absurd (omega arith))

pub written_in : (f : ℕ → ℕ) (address : ℕ) (bytes : List ℕ) (x : ℕ) → address ≤ x → x < address + length bytes → written f address bytes x ≡ slice_index bytes (x - address)
written_in f address [] x low high = absurd (omega arith)
written_in f address (byte ∷ bytes) x low high = ⊎_elim
    (λ (t : x ≡ address).
    let none : 0 ≡ x - address = omega arith in
    written_below (with_at f address byte) (address + 1) bytes x (omega arith)
    ∙ ap (with_at f address byte) t
    ∙ here_with f address byte
    ∙ ap (slice_index (byte ∷ bytes)) none)
    (λ (t : x ≡ address → ⊥).
    let next : suc (x - (address + 1)) ≡ x - address = omega arith in
    written_in (with_at f address byte) (address + 1) bytes x (omega arith) (omega arith)
    ∙ ap (slice_index (byte ∷ bytes)) next)
    (cases_eq x address)
