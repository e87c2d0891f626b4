-- Pages are taken out of a tree, and bytes are made zero.
use Rattle.std.proofs.Common.{◌≡◌, ◌≢◌, ℕ, ◌+◌, ◌/◌, ◌%◌, ◌<◌, ◌≤◌, true, Option, Some, None, List, [], ◌++◌, length, take, drop, replicate, refl, ap, sym, subst, ◌∙◌, arith, ⊎_elim, append_assoc}
use Rattle.std.proofs.Math.Path.{fun_ext}
use Rattle.std.specs.Prelude.{option_map}
use Rattle.std.proofs.lemmas.Bool.{cases_eq, cases_lt, eq-eqb, ne_eqb, lt-ltb, le-ltb, le-leb, lt-leb}
use Rattle.std.proofs.lemmas.List.{length-replicate, take-append-drop}
use Rattle.std.proofs.Math.Seq.{drop-drop}
use Rattle.kn_base.specs.Memory.{zero_page}
use Rattle.kn_base.specs.Rows.{overwritten, part_at}
use Rattle.kernel_tables.specs.declared.entry.PageOwner.{PageOwner}
use Rattle.kernel_tables.specs.Kernel.{Kernel, IsBankPage, memory_page}
use Rattle.space_bank.specs.Bank.{BankGood}
use Rattle.space_bank.specs.Shares.{Outside}
use Rattle.unix_model.specs.Memory.{Memory, Page, all_writable}
use Rattle.unix_model.specs.Tables.{at, with_at}
use Rattle.unix_model.proofs.TableLaws.{with_at-same}
use Rattle.forest.specs.Forest.{IsSpace}
use Rattle.forest.specs.Walks.{Mapping, map_of}
use Rattle.kernel_forest.specs.Owners.{page_owners, PagesAreOf}
use Rattle.kernel_forest.specs.Trees.{forest_of, TreesGood}
use Rattle.kernel_forest.proofs.Bridge.{page_inside}
use Rattle.kernel_forest.proofs.Moves.{bank_page as its_page}
use Rattle.seg_tree.specs.Promises.{Replaces}
use Rattle.user_copy.specs.SpaceMemory.{memory_by, page_of, space_memory}
use Rattle.user_copy.specs.Writing.{PutsPiece}
use Rattle.user_copy.proofs.Bytes.{bytes_put, all_may}
use Rattle.user_copy.proofs.Pages.{found_owned, memory_found, memory_none}
use Rattle.user_copy.proofs.Tests.{writable_found}
use Rattle.kernel_machine.proofs.MemoryLaws.{made-same}
use Rattle.kernel_machine.proofs.SpacesStand.{replace_leaves, piece_leaves}
use Rattle.file_trees.specs.Trees.{tree_memory}
use Rattle.file_trees.specs.Pieces.{StaysOwned}
use Rattle.file_trees.specs.Cuts.{CutsPage, CutsTree, ClearsPiece, without_pages, cleared}
use Rattle.file_trees.proofs.Contents.{WholeTree}
use Rattle.file_trees.proofs.Leaving.{leaves_same, leaves_trans}
use Rattle.file_trees.proofs.Owned.{owned_left, owned_with}
use Rattle.file_trees.proofs.Pages.{tree_is_space, page_found, zero_part}
use Rattle.file_trees.proofs.Pieces.{memory_with, space_some}

-- zeros over zeros
zero_over : (place count : ℕ) → place + count ≤ 4096 → overwritten zero_page place (replicate count 0) ≡ zero_page
unfolding overwritten
zero_over place count inside =
    let long : length (replicate {A = ℕ} count 0) ≡ count = length-replicate {A = ℕ} count 0 in
    ap (λ part. take place zero_page ++ part ++ drop (place + length (replicate {A = ℕ} count 0)) zero_page) (sym (zero_part place count inside))
    ∙ ap (λ n. take place zero_page ++ part_at zero_page place count ++ drop (place + n) zero_page) long
    ∙ ap (λ back. take place zero_page ++ part_at zero_page place count ++ back) (sym (drop-drop count place zero_page))
    ∙ append_assoc (take place zero_page) (part_at zero_page place count) (drop count (drop place zero_page))
    ∙ ap (λ back. take place zero_page ++ back) (take-append-drop count (drop place zero_page))
    ∙ take-append-drop place zero_page

-- ---- one page

module _ (kernel : Kernel) (tree page : ℕ) (good : BankGood kernel) (is : IsSpace (forest_of kernel) [] tree) where
  pub cuts_nothing : map_of (forest_of kernel).keys tree page ≡ None → CutsPage kernel kernel tree page
  cuts_nothing none = record {
    leaves = leaves_same kernel tree;
    owned = λ whose was. was;
    here = sym (with_at-same (tree_memory kernel tree) page None (ap (λ (memory : Memory). at memory page) (tree_is_space kernel tree (space_some kernel tree good is)) ∙ memory_none kernel tree page none));
  }

  module _ (new : Kernel) (outside : Outside) (trees : TreesGood kernel outside []) (good_new : BankGood new) (replaces : Replaces kernel new tree 4 (with_at (map_of (forest_of kernel).keys tree) page None)) where
    abbrev map_now : ℕ → Option Mapping
    map_now = with_at (map_of (forest_of kernel).keys tree) page None

    -- what is mapped still wasn't given back, so it has the bytes that it had
    bytes_kept : (number : ℕ) (mapping : Mapping) → map_now number ≡ Some mapping → memory_page new mapping.page ≡ memory_page kernel mapping.page
    bytes_kept number mapping mapped = ⊎_elim
        (λ (t : mapping.page ≡ 0). rw t (ap (λ (k : Kernel). k.page_zero) replaces.rest))
        (λ (real : mapping.page ≢ 0).
        let after = replaces.changes outside trees in
        let now : map_of (forest_of new).keys tree number ≡ Some mapping = ap (λ (map : ℕ → Option Mapping). map number) after.1.here ∙ mapped in
        let some = found_owned (forest_of new) tree number mapping after.0.held.sound after.1.stays now real in
        let inside = subst (λ size. IsBankPage size mapping.page) (ap (λ (k : Kernel). k.size) replaces.rest) (its_page new mapping.page (page_inside new mapping.page good_new some)) in
        rw (ne_eqb mapping.page 0 real) (replaces.bytes mapping.page inside (λ was. some)))
        (cases_eq mapping.page 0)

    memory_kept : memory_by (memory_page new) map_now ≡ memory_by (memory_page kernel) map_now
    unfolding memory_by
    memory_kept = fun_ext (λ number. made-same (page_of (memory_page new)) (page_of (memory_page kernel)) (map_now number)
        (λ mapping mapped. ap (λ content. let p : Page = record { writable = mapping.writable; bytes = content } in p) (bytes_kept number mapping mapped)))

    -- whose the pages are that are left
    owned_now : (whose : PageOwner) → StaysOwned whose kernel new tree
    owned_now whose was =
        let after = replaces.changes outside trees in
        owned_left kernel new tree whose replaces.owners_now after.0.held.sound after.1.stays
        (subst (λ (map : ℕ → Option Mapping). PagesAreOf whose (page_owners kernel) map) (sym after.1.here)
        (owned_with whose (page_owners kernel) (map_of (forest_of kernel).keys tree) page None (λ mapping e real. cc) was))

    pub cuts_one : CutsPage kernel new tree page
    cuts_one =
        let after = replaces.changes outside trees in
        record {
          leaves = replace_leaves kernel new tree 4 map_now outside trees good_new replaces;
          owned = owned_now;
          here = tree_is_space new tree (space_some new tree good_new after.1.stays)
              ∙ ap (λ (map : ℕ → Option Mapping). memory_by (memory_page new) map) after.1.here
              ∙ memory_kept
              ∙ memory_with (memory_page kernel) (map_of (forest_of kernel).keys tree) page None
              ∙ ap (λ (memory : Memory). with_at memory page None) (sym (tree_is_space kernel tree (space_some kernel tree good is)));
        }

-- ---- many pages

pub cut_none : (memory : Memory) (first : ℕ) → without_pages memory first first ≡ memory
unfolding without_pages at
cut_none memory first = fun_ext (λ number. ⊎_elim
    (λ (t : number < first). rw (lt-leb first number t) refl)
    (λ (t : first ≤ number). rw (le-leb first number t, le-ltb number first t) refl)
    (cases_lt number first))

pub cut_more : (memory : Memory) (first next : ℕ) → first ≤ next → with_at (without_pages memory first next) next None ≡ without_pages memory first (next + 1)
unfolding without_pages with_at
cut_more memory first next order = fun_ext (λ number. ⊎_elim
    (λ (t : number ≡ next). rw (eq-eqb number next t, le-leb first number (omega arith), lt-ltb number (next + 1) (omega arith)) refl)
    (λ (t : number ≡ next → ⊥). ⊎_elim
    (λ (b : number < next). rw (ne_eqb number next t, lt-ltb number next b, lt-ltb number (next + 1) (omega arith)) refl)
    (λ (b : next ≤ number). rw (ne_eqb number next t, le-ltb number next b, le-ltb number (next + 1) (omega arith)) refl)
    (cases_lt number next))
    (cases_eq number next))

pub cuts_first : (kernel : Kernel) (tree first : ℕ) → CutsTree kernel kernel tree first first
cuts_first kernel tree first = record {
  leaves = leaves_same kernel tree;
  owned = λ whose was. was;
  here = sym (cut_none (tree_memory kernel tree) first);
}

pub cuts_more : (k0 k1 k2 : Kernel) (tree first next : ℕ) → first ≤ next → CutsTree k0 k1 tree first next → CutsPage k1 k2 tree next → CutsTree k0 k2 tree first (next + 1)
cuts_more k0 k1 k2 tree first next order a b = record {
  leaves = leaves_trans k0 k1 k2 tree a.leaves b.leaves;
  owned = λ whose was. b.owned whose (a.owned whose was);
  here = b.here ∙ ap (λ (memory : Memory). with_at memory next None) a.here ∙ cut_more (tree_memory k0 tree) first next order;
}

-- ---- bytes are made zero

module _ (kernel : Kernel) (tree place count : ℕ) (owner : PageOwner) (good : BankGood kernel) (is : IsSpace (forest_of kernel) [] tree)
    (whole : WholeTree (tree_memory kernel tree)) (inside : place % 4096 + count ≤ 4096) where
  abbrev memory : Memory
  memory = tree_memory kernel tree

  there : (found : Mapping) → map_of (forest_of kernel).keys tree (place / 4096) ≡ Some found → at memory (place / 4096) ≡ Some (page_of (memory_page kernel) found)
  there found e = ap (λ (m : Memory). at m (place / 4096)) (tree_is_space kernel tree (space_some kernel tree good is)) ∙ memory_found kernel tree (place / 4096) found e

  pub clears_none : map_of (forest_of kernel).keys tree (place / 4096) ≡ None → ClearsPiece kernel kernel tree place count owner
  clears_none none =
      let absent : at memory (place / 4096) ≡ None = ap (λ (m : Memory). at m (place / 4096)) (tree_is_space kernel tree (space_some kernel tree good is)) ∙ memory_none kernel tree (place / 4096) none in
      record {
        leaves = leaves_same kernel tree;
        owned = λ was. was;
        here = sym (ap (λ page. with_at memory (place / 4096) (option_map (cleared (place % 4096) count) page)) absent ∙ with_at-same memory (place / 4096) None absent);
      }

  -- a blank page is zero already
  pub clears_blank : (found : Mapping) → kernel.page_zero ≡ zero_page → map_of (forest_of kernel).keys tree (place / 4096) ≡ Some found → found.page ≡ 0
      → ClearsPiece kernel kernel tree place count owner
  clears_blank found zeros e blank =
      let bytes : memory_page kernel found.page ≡ zero_page = rw (eq-eqb found.page 0 blank) zeros in
      let same : cleared (place % 4096) count (page_of (memory_page kernel) found) ≡ page_of (memory_page kernel) found
      = ap (λ (b : List ℕ). let p : Page = record { writable = found.writable; bytes = b } in p)
      (ap (λ page. overwritten page (place % 4096) (replicate count 0)) bytes ∙ zero_over (place % 4096) count inside ∙ sym bytes) in
      record {
        leaves = leaves_same kernel tree;
        owned = λ was. was;
        here = sym (ap (λ page. with_at memory (place / 4096) (option_map (cleared (place % 4096) count) page)) (there found e)
            ∙ ap (λ (p : Page). with_at memory (place / 4096) (Some p)) same
            ∙ with_at-same memory (place / 4096) (Some (page_of (memory_page kernel) found)) (there found e));
      }

  module _ (found : Mapping) (e : map_of (forest_of kernel).keys tree (place / 4096) ≡ Some found) where
    at_space : at (space_memory kernel tree) (place / 4096) ≡ Some (page_of (memory_page kernel) found)
    at_space = memory_found kernel tree (place / 4096) found e

    pub may_clear : (n : ℕ) → n ≡ count → found.writable ≡ true → all_writable (space_memory kernel tree) place n ≡ true
    may_clear n short may = all_may (space_memory kernel tree) place n (λ i below.
        let number : (place + i) / 4096 ≡ place / 4096 = omega arith in
        sym (writable_found (space_memory kernel tree) (place + i) (place / 4096) (page_of (memory_page kernel) found) at_space number) ∙ may)

    -- what is mapped there is no page of zeros
    pub real_clear : found.page ≢ 0 → (other : Mapping) → map_of (forest_of kernel).keys tree (place / 4096) ≡ Some other → other.page ≢ 0
    real_clear real other there_other none =
        let both : Some found ≡ Some other = sym e ∙ there_other in
        let it : found ≡ other = cc in
        real (ap (λ (m : Mapping). m.page) it ∙ none)

    pub clears_put : (new : Kernel) (bytes : List ℕ) → bytes ≡ replicate count 0 → BankGood new → PutsPiece kernel new tree place bytes owner
        → ClearsPiece kernel new tree place count owner
    clears_put new bytes zeros good_new put =
        let long : length bytes ≡ count = ap length zeros ∙ length-replicate {A = ℕ} count 0 in
        record {
          leaves = piece_leaves kernel new tree place bytes owner put;
          owned = put.owned;
          here = tree_is_space new tree (space_some new tree good_new ((put.owns.spaces tree).0 is))
              ∙ put.here
              ∙ bytes_put (space_memory kernel tree) place (page_of (memory_page kernel) found) bytes at_space (ap length (sym (page_found kernel tree (place / 4096) found (space_some kernel tree good is) e)) ∙ whole (place / 4096)) (omega arith)
              ∙ ap (λ (b : List ℕ). with_at (space_memory kernel tree) (place / 4096) (Some (record (page_of (memory_page kernel) found) { bytes = overwritten (memory_page kernel found.page) (place % 4096) b }))) zeros
              ∙ ap (λ (m : Memory). with_at m (place / 4096) (Some (cleared (place % 4096) count (page_of (memory_page kernel) found)))) (sym (tree_is_space kernel tree (space_some kernel tree good is)))
              ∙ sym (ap (λ page. with_at memory (place / 4096) (option_map (cleared (place % 4096) count) page)) (there found e));
        }
