-- A directory gets a place more: behind its end all bytes are zero, so the place is a hole.
use Rattle.std.proofs.Common.{◌≡◌, ℕ, zero, suc, ◌+◌, ◌-◌, ◌*◌, ◌/◌, ◌<◌, ◌≤◌, Option, None, List, [], ◌∷◌, ◌++◌, length, get_or, set, replicate, refl, ap, ap₂, sym, ◌∙◌, arith, add-one}
use Rattle.std.specs.Prelude.{◌%◌}
use Rattle.std.proofs.lemmas.List.{same_lists, length-replicate, get_or-replicate, set-append_right}
use Rattle.kn_base.specs.Memory.{zero_page}
use Rattle.kn_base.specs.Rows.{part_at}
use Rattle.kn_base.proofs.RowLaws.{length-part_at}
use Rattle.unix_model.specs.Files.{Entry}
use Rattle.unix_model.specs.Memory.{Memory}
use Rattle.kernel_machine.specs.Contents.{file_in, place_in, places_in}
use Rattle.file_trees.specs.FileMemory.{IsFileMemory}
use Rattle.file_trees.specs.Trees.{tree_page}
use Rattle.file_trees.proofs.Contents.{WholeTree, part_get}
use Rattle.file_trees.proofs.Pages.{zero_part}
use Rattle.dir_domain.specs.Places.{numbered_place}
use Rattle.dir_domain.proofs.Names.{hole-place}
use Rattle.dir_domain.proofs.Searches.{place-here}

module _ (memory : Memory) (whole : WholeTree memory) (size : ℕ) (is : IsFileMemory memory size) where
  -- behind the end of a directory all is zero, so the first place there is a hole
  pub hole-behind : (n : ℕ) → size ≤ 32 * n → numbered_place (file_in memory (32 * n + 32)) n ≡ None
  unfolding place_in
  hole-behind n past =
      let split : n ≡ 128 * (n / 128) + n % 128 = omega arith in
      let short : length (part_at (tree_page memory (n / 128)) (32 * (n % 128)) 32) ≡ 32 = length-part_at (tree_page memory (n / 128)) (32 * (n % 128)) 32 (omega (arith, whole (n / 128))) in
      let zeros : part_at (tree_page memory (n / 128)) (32 * (n % 128)) 32 ≡ replicate 32 0 =
      same_lists _ _ (short ∙ sym (length-replicate {A = ℕ} 32 0))
      (λ k d l.
      let below : k < 32 = omega (arith, short) in
      let number : (32 * n + k) / 4096 ≡ n / 128 = omega arith in
      let place : (32 * n + k) % 4096 ≡ 32 * (n % 128) + k = omega arith in
      any-default (part_at (tree_page memory (n / 128)) (32 * (n % 128)) 32) k d (omega (arith, short))
      ∙ part_get (tree_page memory (n / 128)) (32 * (n % 128)) 32 k 0 below
      ∙ ap₂ (λ p i. get_or (tree_page memory p) i 0) (sym number) (sym place)
      ∙ is.zeros (32 * n + k) (omega arith)
      ∙ sym (get_or-replicate 32 k 0 d below))
      in
      ap (numbered_place (file_in memory (32 * n + 32))) split
      ∙ place-here memory whole (32 * n + 32) (n / 128) (n % 128) (omega arith) (omega arith)
      ∙ ap place_in zeros
    where
      any-default : (xs : List ℕ) (k d : ℕ) → k < length xs → get_or xs k d ≡ get_or xs k 0
      any-default [] k d below = absurd (omega arith)
      any-default (x ∷ xs) zero d below = refl
      any-default (x ∷ xs) (suc k) d below = any-default xs k d (omega arith)

-- ---- places that are the same

pub same-places : (xs ys : List ℕ) (count : ℕ) → ((k : ℕ) → k < count → numbered_place xs k ≡ numbered_place ys k) → places_in xs count ≡ places_in ys count
unfolding places_in
same-places xs ys zero each = refl
same-places xs ys (suc n) each =
    ap₂ (λ (front : List (Option Entry)) last. front ++ last ∷ []) (same-places xs ys n (λ k below. each k (omega arith))) (each n (omega arith))

-- a place is read the same from a longer file
pub same-place : (m1 m2 : Memory) → WholeTree m1 → WholeTree m2 → (s1 s2 k : ℕ) → 32 * k + 32 ≤ s1 → 32 * k + 32 ≤ s2 → tree_page m1 (k / 128) ≡ tree_page m2 (k / 128)
    → numbered_place (file_in m1 s1) k ≡ numbered_place (file_in m2 s2) k
same-place m1 m2 w1 w2 s1 s2 k a b e =
    let split : k ≡ 128 * (k / 128) + k % 128 = omega arith in
    ap (numbered_place (file_in m1 s1)) split ∙ place-here m1 w1 s1 (k / 128) (k % 128) (omega arith) (omega arith)
    ∙ ap (λ xs. numbered_place xs (k % 128)) e
    ∙ sym (ap (numbered_place (file_in m2 s2)) split ∙ place-here m2 w2 s2 (k / 128) (k % 128) (omega arith) (omega arith))

-- a file of so many places has a hole more where the next place is one
pub places-more : (memory : Memory) → WholeTree memory → (n : ℕ) → numbered_place (file_in memory (32 * n + 32)) n ≡ None
    → places_in (file_in memory (32 * n + 32)) (n + 1) ≡ places_in (file_in memory (32 * n)) n ++ None ∷ []
unfolding places_in
places-more memory whole n hole =
    rw (add-one n)
    (ap₂ (λ (front : List (Option Entry)) last. front ++ last ∷ [])
    (same-places (file_in memory (32 * n + 32)) (file_in memory (32 * n)) n (λ k below. same-place memory memory whole whole (32 * n + 32) (32 * n) k (omega arith) (omega arith) refl)) hole)

-- the last one is filled
pub set-last-place : (places : List (Option Entry)) (place : Option Entry) → set (places ++ None ∷ []) (length places) place ≡ places ++ place ∷ []
set-last-place places place =
    let none : length places - length places ≡ 0 = omega arith in
    set-append_right places (None ∷ []) (length places) (length places) place refl (omega arith) ∙ ap (λ i. places ++ set (None ∷ []) i place) none

-- ---- a tree without pages

-- each place of a memory of zeros is a hole
pub blank-place : (memory : Memory) → WholeTree memory → (size k : ℕ) → tree_page memory (k / 128) ≡ zero_page → 32 * k + 32 ≤ size → numbered_place (file_in memory size) k ≡ None
blank-place memory whole size k blank within =
    let split : k ≡ 128 * (k / 128) + k % 128 = omega arith in
    ap (numbered_place (file_in memory size)) split ∙ place-here memory whole size (k / 128) (k % 128) (omega arith) (omega arith)
    ∙ ap (λ xs. numbered_place xs (k % 128)) blank
    ∙ ap place_in (zero_part (32 * (k % 128)) 32 (omega arith))
    ∙ hole-place
