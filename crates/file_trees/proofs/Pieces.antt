-- A page is mapped where none was, and bytes are put into it.
use Rattle.std.proofs.Common.{◌≡◌, ◌≢◌, ℕ, ◌+◌, ◌/◌, ◌%◌, ◌<◌, ◌≤◌, true, Option, Some, None, List, [], length, refl, ap, sym, subst, ◌∙◌, arith}
use Rattle.std.specs.Prelude.{option_map}
use Rattle.kn_base.specs.Memory.{zero_page}
use Rattle.kn_base.specs.Rows.{overwritten}
use Rattle.kernel_tables.specs.declared.entry.PageOwner.{PageOwner}
use Rattle.kernel_tables.specs.Kernel.{Kernel, memory_page}
use Rattle.space_bank.specs.Bank.{BankGood}
use Rattle.space_bank.specs.Shares.{Outside}
use Rattle.space_bank.proofs.ChangeLaws.{taken_high}
use Rattle.unix_model.specs.Memory.{Memory, Page, all_writable}
use Rattle.unix_model.specs.Tables.{at, with_at}
use Rattle.unix_model.proofs.TableLaws.{at-with_at, with_at-same, with_at-twice}
use Rattle.forest.specs.Calls.{IsOwn}
use Rattle.forest.specs.Forest.{IsSpace}
use Rattle.forest.specs.Walks.{Mapping, map_of}
use Rattle.kernel_forest.specs.Owners.{page_owners}
use Rattle.kernel_forest.specs.Trees.{forest_of, TreesGood}
use Rattle.kernel_forest.proofs.Moves.{node_taken}
use Rattle.kernel_forest.proofs.Owners.{pages-kept}
use Rattle.seg_tree.specs.Promises.{Remaps}
use Rattle.user_copy.specs.SpaceMemory.{memory_by, page_of, space_memory}
use Rattle.user_copy.specs.Writing.{PutsPiece}
use Rattle.user_copy.proofs.Bytes.{bytes_put, all_may}
use Rattle.user_copy.proofs.Pages.{memory_found}
use Rattle.user_copy.proofs.Tests.{writable_found}
use Rattle.kernel_machine.proofs.SpacesStand.{remap_leaves, piece_leaves}
use Rattle.kernel_machine.proofs.ViewLaws.{mapped_changed}
use Rattle.file_trees.specs.Trees.{tree_memory, tree_page}
use Rattle.file_trees.specs.Pieces.{MapsPage, PutsInTree, with_piece}
use Rattle.file_trees.proofs.Contents.{WholeTree}
use Rattle.file_trees.proofs.Leaving.{leaves_same, leaves_trans}
use Rattle.file_trees.proofs.Owned.{owned_with}
use Rattle.file_trees.proofs.Pages.{tree_is_space, page_found, page_none}

-- no space is node 0
pub space_some : (kernel : Kernel) (space : ℕ) → BankGood kernel → IsSpace (forest_of kernel) [] space → space ≢ 0
space_some kernel space good is none =
    let high : 15 ≤ space = taken_high kernel space (node_taken kernel space is.owned) good in
    absurd (omega arith)

-- the memory of a map that is changed at a page number
pub memory_with : (bytes : ℕ → List ℕ) (map : ℕ → Option Mapping) (page : ℕ) (found : Option Mapping)
    → memory_by bytes (with_at map page found) ≡ with_at (memory_by bytes map) page (option_map (page_of bytes) found)
unfolding memory_by at
memory_with bytes map page found = mapped_changed (page_of bytes) map page found

-- ---- a page is there

abbrev page_or : Option Mapping → ℕ
page_or None = 0
page_or (Some found) = found.page

module _ (kernel : Kernel) (tree page : ℕ) (good : BankGood kernel) (is : IsSpace (forest_of kernel) [] tree) where
  -- it was there before
  pub maps_found : (found : Mapping) → map_of (forest_of kernel).keys tree page ≡ Some found → found.writable ≡ true → MapsPage kernel kernel tree page
  maps_found found e may =
      let there : at (tree_memory kernel tree) page ≡ Some (page_of (memory_page kernel) found)
      = ap (λ (memory : Memory). at memory page) (tree_is_space kernel tree (space_some kernel tree good is)) ∙ memory_found kernel tree page found e in
      let page_is : page_of (memory_page kernel) found ≡ record { writable = true; bytes = tree_page (tree_memory kernel tree) page }
      = ap (λ w. let p : Page = record { writable = w; bytes = memory_page kernel found.page } in p) may
      ∙ ap (λ (b : List ℕ). let p : Page = record { writable = true; bytes = b } in p) (sym (page_found kernel tree page found (space_some kernel tree good is) e)) in
      record {
        leaves = leaves_same kernel tree;
        owned = λ whose was. was;
        here = sym (with_at-same (tree_memory kernel tree) page (Some (record { writable = true; bytes = tree_page (tree_memory kernel tree) page })) (there ∙ ap (λ (p : Page). Some p) page_is));
        own = λ other own. own;
        still = λ other own. own;
        pages = refl;
        most = omega arith;
      }

  -- the page of zeros was mapped, which is nobody's
  pub maps_zero : (new : Kernel) (outside : Outside) → TreesGood kernel outside [] → BankGood new → kernel.page_zero ≡ zero_page → map_of (forest_of kernel).keys tree page ≡ None
      → Remaps kernel new tree 4 (with_at (map_of (forest_of kernel).keys tree) page (Some (record { writable = true; page = 0 })))
      → MapsPage kernel new tree page
  unfolding at
  maps_zero new outside trees good_new zeros none remaps =
      let some = space_some kernel tree good is in
      let changes = (remaps.changes outside trees).1 in
      let pages_same : memory_page new ≡ memory_page kernel = ap memory_page remaps.rest in
      let found_now : map_of (forest_of new).keys tree page ≡ Some (record { writable = true; page = 0 })
      = ap (λ (map : ℕ → Option Mapping). at map page) changes.here ∙ at-with_at (map_of (forest_of kernel).keys tree) page (Some (record { writable = true; page = 0 })) in
      let blank : page_of (memory_page kernel) (record { writable = true; page = 0 }) ≡ record { writable = true; bytes = tree_page (tree_memory kernel tree) page }
      = ap (λ (b : List ℕ). let p : Page = record { writable = true; bytes = b } in p) (zeros ∙ sym (page_none kernel tree page some none)) in
      record {
        leaves = remap_leaves kernel new tree 4 (with_at (map_of (forest_of kernel).keys tree) page (Some (record { writable = true; page = 0 }))) outside trees remaps;
        owned = λ whose was.
            pages-kept whose kernel new (with_at (map_of (forest_of kernel).keys tree) page (Some (record { writable = true; page = 0 })))
            (map_of (forest_of new).keys tree) changes.here remaps.owners_now
            (owned_with whose (page_owners kernel) (map_of (forest_of kernel).keys tree) page (Some (record { writable = true; page = 0 }))
            (λ mapping e real. absurd (real (sym (ap page_or e)))) was);
        here = tree_is_space new tree (space_some new tree good_new changes.stays)
            ∙ ap (λ (bytes : ℕ → List ℕ). memory_by bytes (map_of (forest_of new).keys tree)) pages_same
            ∙ ap (λ (map : ℕ → Option Mapping). memory_by (memory_page kernel) map) changes.here
            ∙ memory_with (memory_page kernel) (map_of (forest_of kernel).keys tree) page (Some (record { writable = true; page = 0 }))
            ∙ ap (λ (p : Page). with_at (space_memory kernel tree) page (Some p)) blank
            ∙ ap (λ (memory : Memory). with_at memory page (Some (record { writable = true; bytes = tree_page (tree_memory kernel tree) page }))) (sym (tree_is_space kernel tree some));
        own = λ found own.
            let same : Some found ≡ Some (record { writable = true; page = 0 }) = sym own.mapped ∙ found_now in
            let it : found.page ≡ 0 = ap (λ (m : Option Mapping). page_or m) same in
            absurd (own.real it);
        still = λ found own. let no : Some found ≡ None = sym own.mapped ∙ none in cc;
        pages = ap (λ (k : Kernel). k.machine.pages_taken) remaps.rest;
        most = remaps.most;
      }

-- ---- bytes are put

module _ (k0 k1 k2 : Kernel) (tree place : ℕ) (bytes : List ℕ) (good : BankGood k0) (good1 : BankGood k1) (good2 : BankGood k2) (is : IsSpace (forest_of k0) [] tree)
    (whole : WholeTree (tree_memory k0 tree)) (inside : place % 4096 + length bytes ≤ 4096) (maps : MapsPage k0 k1 tree (place / 4096)) where
  is1 : IsSpace (forest_of k1) [] tree
  is1 = (maps.leaves.spaces tree).0 is

  abbrev page : Page
  page = record { writable = true; bytes = tree_page (tree_memory k0 tree) (place / 4096) }

  there : at (space_memory k1 tree) (place / 4096) ≡ Some page
  there =
      ap (λ (memory : Memory). at memory (place / 4096)) (sym (tree_is_space k1 tree (space_some k1 tree good1 is1)) ∙ maps.here)
      ∙ at-with_at (tree_memory k0 tree) (place / 4096) (Some page)

  -- all of the piece may be written now
  pub may_put : all_writable (space_memory k1 tree) place (length bytes) ≡ true
  may_put = all_may (space_memory k1 tree) place (length bytes) (λ i below.
      let number : (place + i) / 4096 ≡ place / 4096 = omega arith in
      sym (writable_found (space_memory k1 tree) (place + i) (place / 4096) page there number))

  -- what was own there is what is mapped there now
  still_own : (found : Mapping) → map_of (forest_of k1).keys tree (place / 4096) ≡ Some found
      → (other : Mapping) → IsOwn (forest_of k0) tree (place / 4096) other
      → IsOwn (forest_of k1) tree (place / 4096) found
  still_own found e other own =
      let now = maps.still other own in
      let same : Some other ≡ Some found = sym now.mapped ∙ e in
      let it : other ≡ found = cc in
      subst (IsOwn (forest_of k1) tree (place / 4096)) it now

  -- there is room for the page
  pub room_put : (((found : Mapping) → IsOwn (forest_of k0) tree (place / 4096) found → ⊥) → k0.machine.pages_taken < k0.size)
      → (found : Mapping) → map_of (forest_of k1).keys tree (place / 4096) ≡ Some found
      → (IsOwn (forest_of k1) tree (place / 4096) found → ⊥) → k1.machine.pages_taken < k1.size
  room_put room found e shared =
      let size : k1.size ≡ k0.size = ap (λ (k : Kernel). k.size) maps.leaves.rest in
      let less : k0.machine.pages_taken < k0.size = room (λ other own. shared (still_own found e other own)) in
      let pages = maps.pages in
      omega arith

  module _ (owner : PageOwner) (put : PutsPiece k1 k2 tree place bytes owner) where
    is2 : IsSpace (forest_of k2) [] tree
    is2 = (put.owns.spaces tree).0 is1

    here_now : tree_memory k2 tree ≡ with_piece (tree_memory k0 tree) place bytes
    here_now =
        tree_is_space k2 tree (space_some k2 tree good2 is2)
        ∙ put.here
        ∙ bytes_put (space_memory k1 tree) place page bytes there (whole (place / 4096)) inside
        ∙ ap (λ (memory : Memory). with_at memory (place / 4096) (Some (record page { bytes = overwritten page.bytes (place % 4096) bytes })))
        (sym (tree_is_space k1 tree (space_some k1 tree good1 is1)) ∙ maps.here)
        ∙ with_at-twice (tree_memory k0 tree) (place / 4096) (Some page) (Some (record page { bytes = overwritten page.bytes (place % 4096) bytes }))

    pub puts_in_tree : PutsInTree k0 k2 tree place bytes owner
    puts_in_tree = record {
      leaves = leaves_trans k0 k1 k2 tree maps.leaves (piece_leaves k1 k2 tree place bytes owner put);
      owned = λ was. put.owned (maps.owned owner was);
      here = here_now;
      own = (put.result, put.owns.own);
      kept = λ found own. put.kept (still_own put.found put.mapped found own) ∙ maps.pages;
      taken = λ shared. put.copied (λ own. shared put.found (maps.own put.found own)) ∙ ap (λ n. n + 1) maps.pages;
      most = let m = maps.most in let n = put.most in omega arith;
    }
