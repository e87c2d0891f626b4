-- The tree of a file, by its memory.
use Rattle.std.proofs.Common.{◌≡◌, ◌≢◌, ℕ, zero, suc, ◌+◌, ◌-◌, ◌*◌, ◌/◌, ◌%◌, ◌<◌, ◌≤◌, ◌&&◌, ◌==◌, Bool, true, false, Option, Some, None, List, [], ◌∷◌, length, drop, length-drop, get_or, refl, ap, sym, subst, ◌∙◌, arith, ⊎_elim}
use Rattle.std.specs.List.{list_all}
use Rattle.std.specs.Prelude.{option_map}
use Rattle.std.proofs.lemmas.Bool.{cases_eq, cases_lt, eqb-true, eq-eqb}
use Rattle.std.proofs.lemmas.List.{get_or-drop}
use Rattle.kn_base.specs.Rows.{overwritten}
use Rattle.kernel_tables.specs.declared.entry.PageOwner.{PageOwner}
use Rattle.kernel_tables.specs.Kernel.{Kernel, memory_page}
use Rattle.unix_model.specs.Memory.{Memory, Page}
use Rattle.unix_model.specs.Numbers.{pages_of}
use Rattle.unix_model.specs.Tables.{at, nothing}
use Rattle.unix_model.proofs.TableLaws.{at-with_at}
use Rattle.forest.specs.Walks.{Mapping, map_of}
use Rattle.kernel_forest.specs.Trees.{forest_of}
use Rattle.user_copy.specs.SpaceMemory.{page_of, space_memory}
use Rattle.user_copy.proofs.Pages.{memory_is, memory_found}
use Rattle.kernel_machine.specs.Contents.{file_in, pages_in, mapped_bytes}
use Rattle.kernel_machine.specs.Trees.{IsFileTree, ends_in_zeros}
use Rattle.kernel_machine.specs.View.{file_memory}
use Rattle.kernel_machine.proofs.PagesHeld.{pages-long}
use Rattle.file_trees.specs.Pieces.{PutsInTree}
use Rattle.file_trees.specs.Trees.{tree_memory, tree_page}
use Rattle.file_trees.specs.FileMemory.{byte_in, IsFileMemory}
use Rattle.file_trees.proofs.Contents.{WholeTree, pages_get}
use Rattle.file_trees.proofs.FileMemory.{file_put, memory_empty, memory_grown, memory_put, put_whole, zero_get}
use Rattle.file_trees.proofs.Pages.{tree_is_space}

-- ---- lists of zeros

both-true : (a b : Bool) → (a && b) ≡ true → (a ≡ true) × (b ≡ true)
both-true true b e = (refl, e)
both-true false b e = cc

pub zeros_get : (bytes : List ℕ) → list_all (λ byte. byte == 0) bytes ≡ true → (k : ℕ) → k < length bytes → get_or bytes k 0 ≡ 0
zeros_get [] all k below = absurd (omega arith)
zeros_get (byte ∷ bytes) all zero below = eqb-true byte 0 (both-true (byte == 0) (list_all (λ byte. byte == 0) bytes) all).0
zeros_get (byte ∷ bytes) all (suc k) below = zeros_get bytes (both-true (byte == 0) (list_all (λ byte. byte == 0) bytes) all).1 k (omega arith)

pub zeros_all : (bytes : List ℕ) → ((k : ℕ) → k < length bytes → get_or bytes k 0 ≡ 0) → list_all (λ byte. byte == 0) bytes ≡ true
zeros_all [] each = refl
zeros_all (byte ∷ bytes) each =
    let rest : list_all (λ byte. byte == 0) bytes ≡ true = zeros_all bytes (λ k below. each (suc k) (omega arith)) in
    ap (λ b. b && list_all (λ byte. byte == 0) bytes) (eq-eqb byte 0 (each 0 (omega arith))) ∙ rest

-- ---- a tree and its memory

-- what a map has where its memory has a page
pub map_from : (kernel : Kernel) (root number : ℕ) (page : Page) → root ≢ 0 → at (tree_memory kernel root) number ≡ Some page
    → (mapping : Mapping) × (map_of (forest_of kernel).keys root number ≡ Some mapping) × (page ≡ page_of (memory_page kernel) mapping)
map_from kernel root number page some e = go (map_of (forest_of kernel).keys root number) refl
  where
    there : at (space_memory kernel root) number ≡ Some page
    there = ap (λ (memory : Memory). at memory number) (sym (tree_is_space kernel root some)) ∙ e

    go : (found : Option Mapping) → map_of (forest_of kernel).keys root number ≡ found
        → (mapping : Mapping) × (map_of (forest_of kernel).keys root number ≡ Some mapping) × (page ≡ page_of (memory_page kernel) mapping)
    go None is = let no : None ≡ Some page = sym (memory_is kernel root number ∙ ap (option_map (page_of (memory_page kernel))) is) ∙ there in cc
    go (Some mapping) is =
        let both : Some (page_of (memory_page kernel) mapping) ≡ Some page = sym (memory_found kernel root number mapping is) ∙ there in
        let same : page_of (memory_page kernel) mapping ≡ page = cc in
        (mapping, is, sym same)

pub there_found : (kernel : Kernel) (root number : ℕ) (mapping : Mapping) → root ≢ 0 → map_of (forest_of kernel).keys root number ≡ Some mapping
    → at (tree_memory kernel root) number ≡ Some (page_of (memory_page kernel) mapping)
there_found kernel root number mapping some e = ap (λ (memory : Memory). at memory number) (tree_is_space kernel root some) ∙ memory_found kernel root number mapping e

module _ (kernel : Kernel) (root size : ℕ) (some : root ≢ 0) (whole : WholeTree (tree_memory kernel root)) where
  abbrev memory : Memory
  memory = tree_memory kernel root

  long : length (pages_in memory (pages_of size)) ≡ 4096 * pages_of size
  long = pages-long memory whole (pages_of size)

  -- a page that isn't there is zero
  absent-zero : (i : ℕ) (found : Option Page) → at memory (i / 4096) ≡ found → ((page : Page) → found ≡ Some page → ⊥) → byte_in memory i ≡ 0
  absent-zero i None e none = ap (λ page. get_or (mapped_bytes page) (i % 4096) 0) e ∙ zero_get (i % 4096) (omega arith)
  absent-zero i (Some page) e none = absurd (none page refl)

  pub tree_to_memory : IsFileTree (forest_of kernel).keys (memory_page kernel) root size → IsFileMemory memory size
  unfolding ends_in_zeros
  tree_to_memory tree = record {
    within = λ number page there. let m = map_from kernel root number page some there in tree.within number m.0 m.1;
    writable = λ number page there. let m = map_from kernel root number page some there in ap (λ (p : Page). p.writable) m.2 ∙ tree.writable number m.0 m.1;
    zeros = λ i past. ⊎_elim
        (λ (inside : i < 4096 * pages_of size).
        let zeros : list_all (λ byte. byte == 0) (drop size (pages_in memory (pages_of size))) ≡ true
        = ap (λ (m : Memory). list_all (λ byte. byte == 0) (drop size (pages_in m (pages_of size)))) (tree_is_space kernel root some) ∙ tree.zeros in
        let place : size + (i - size) ≡ i = omega arith in
        let behind : i - size < length (drop size (pages_in memory (pages_of size))) = omega (arith, long, length-drop size (pages_in memory (pages_of size))) in
        sym (pages_get memory whole (pages_of size) i 0 inside)
        ∙ ap (λ k. get_or (pages_in memory (pages_of size)) k 0) (sym place)
        ∙ sym (get_or-drop size (pages_in memory (pages_of size)) (i - size) 0)
        ∙ zeros_get (drop size (pages_in memory (pages_of size))) zeros (i - size) behind)
        (λ (beyond : 4096 * pages_of size ≤ i).
        absent-zero i (at memory (i / 4096)) refl
        (λ page there.
        let m = map_from kernel root (i / 4096) page some there in
        let low : i / 4096 < pages_of size = tree.within (i / 4096) m.0 m.1 in
        absurd (omega arith)))
        (cases_lt i (4096 * pages_of size));
  }

  pub memory_to_tree : (number : ℕ) (page : Page) → at memory number ≡ Some page → IsFileMemory memory size → IsFileTree (forest_of kernel).keys (memory_page kernel) root size
  unfolding ends_in_zeros
  memory_to_tree number page there is = record {
    some_page = let m = map_from kernel root number page some there in (number, m.0, m.1);
    within = λ n mapping e. is.within n (page_of (memory_page kernel) mapping) (there_found kernel root n mapping some e);
    writable = λ n mapping e. is.writable n (page_of (memory_page kernel) mapping) (there_found kernel root n mapping some e);
    zeros =
        ap (λ (m : Memory). list_all (λ byte. byte == 0) (drop size (pages_in m (pages_of size)))) (sym (tree_is_space kernel root some))
        ∙ zeros_all (drop size (pages_in memory (pages_of size))) (λ k below.
        let inside : size + k < 4096 * pages_of size = omega (arith, long, length-drop size (pages_in memory (pages_of size))) in
        get_or-drop size (pages_in memory (pages_of size)) k 0
        ∙ pages_get memory whole (pages_of size) (size + k) 0 inside
        ∙ is.zeros (size + k) (omega arith));
  }

pub memory_absent : (kernel : Kernel) (root number : ℕ) → root ≡ 0 → at (tree_memory kernel root) number ≡ None
unfolding file_memory nothing at
memory_absent kernel zero number e = refl
memory_absent kernel (suc root) number e = absurd (omega arith)

-- where no tree is, no page is there, whatever the length is
pub rootless_memory : (kernel : Kernel) (root size : ℕ) → root ≡ 0 → IsFileMemory (tree_memory kernel root) size
rootless_memory kernel root size none = memory_empty (tree_memory kernel root) (λ number. memory_absent kernel root number none) size

-- the memory of a root word
pub memory_of_root : (kernel : Kernel) (root size : ℕ) → WholeTree (tree_memory kernel root) → (root ≢ 0 → IsFileTree (forest_of kernel).keys (memory_page kernel) root size)
    → IsFileMemory (tree_memory kernel root) size
memory_of_root kernel root size whole tree = ⊎_elim
    (rootless_memory kernel root size)
    (λ (some : root ≡ 0 → ⊥). tree_to_memory kernel root size some whole (tree some))
    (cases_eq root 0)

-- the tree of a file is that of a longer one
pub tree_grown : (kernel : Kernel) (root size more : ℕ) → root ≢ 0 → WholeTree (tree_memory kernel root) → size ≤ more → IsFileTree (forest_of kernel).keys (memory_page kernel) root size
    → IsFileTree (forest_of kernel).keys (memory_page kernel) root more
tree_grown kernel root size more some whole order tree =
    let t = tree.some_page in
    memory_to_tree kernel root more some whole t.0 (page_of (memory_page kernel) t.1) (there_found kernel root t.0 t.1 some t.2)
    (memory_grown (tree_memory kernel root) size more (tree_to_memory kernel root size some whole tree) order)

-- a piece was put into a tree
module _ (old new : Kernel) (root size place : ℕ) (bytes : List ℕ) (owner : PageOwner) (whole : WholeTree (tree_memory old root))
    (inside : place % 4096 + length bytes ≤ 4096) (within : place + length bytes ≤ size)
    (put : PutsInTree old new root place bytes owner) where
  whole_now : WholeTree (tree_memory new root)
  whole_now n = ap (λ (m : Memory). length (tree_page m n)) put.here ∙ put_whole (tree_memory old root) size place bytes whole inside within n

  pub tree_put : root ≢ 0 → 0 < length bytes → IsFileMemory (tree_memory old root) size → IsFileTree (forest_of new).keys (memory_page new) root size
  tree_put some any is =
      memory_to_tree new root size some whole_now (place / 4096) _
      (ap (λ (m : Memory). at m (place / 4096)) put.here ∙ at-with_at (tree_memory old root) (place / 4096) (Some (record { writable = true; bytes = overwritten (tree_page (tree_memory old root) (place / 4096)) (place % 4096) bytes })))
      (subst (λ (m : Memory). IsFileMemory m size) (sym put.here) (memory_put (tree_memory old root) size place bytes whole inside within any is))

  pub bytes_put : file_in (tree_memory new root) size ≡ overwritten (file_in (tree_memory old root) size) place bytes
  bytes_put = ap (λ (m : Memory). file_in m size) put.here ∙ file_put (tree_memory old root) size place bytes whole inside within
