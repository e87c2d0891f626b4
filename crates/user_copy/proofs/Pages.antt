-- What the memory of a space has at a page number.
use Rattle.std.proofs.Common.{◌≡◌, ◌≢◌, ◌≤◌, ◌^◌, ℕ, true, false, nat_lt, Option, Some, None, [], refl, ap, sym, ◌∙◌, ⊎_elim, inl, inr, ◌⊎◌}
use Rattle.std.specs.Prelude.{option_map}
use Rattle.std.specs.Option.{IsSome}
use Rattle.std.proofs.lemmas.Bool.{cases_Bool, cases_eq, ne_eqb, le-ltb}
use Rattle.kn_base.specs.declared.key.Key.{Key}
use Rattle.kn_base.specs.declared.key.Key.TheVariants.{Page as PageKey}
use Rattle.kernel_tables.specs.Kernel.{Kernel, IsBankPage, memory_page}
use Rattle.space_bank.specs.Bank.{BankGood}
use Rattle.unix_model.specs.Tables.{at}
use Rattle.forest.specs.Objects.{PageObject, Owner, OfProcess, OfFile, named}
use Rattle.forest.specs.Walks.{Mapping, map_of, mapping_of, key_at_page, page_way}
use Rattle.forest.specs.Forest.{Forest, Sound, IsSpace}
use Rattle.forest.proofs.CopyLaws.{end_owned}
use Rattle.kernel_forest.specs.Trees.{page_tree, forest_of}
use Rattle.kernel_forest.proofs.Bridge.{page_inside}
use Rattle.kernel_forest.proofs.Moves.{bank_page as its_page}
use Rattle.user_copy.specs.SpaceMemory.{page_of, memory_by, space_memory}
use Rattle.user_copy.specs.Writing.{pages_for}

-- behind the last page number nothing is mapped
pub map_far : (keys : ℕ → Key) (space page : ℕ) → 2 ^ 19 ≤ page → map_of keys space page ≡ None
unfolding map_of
map_far keys space page far = rw (le-ltb page (2 ^ 19) far) refl

-- the key of a mapped page is that of page 0, or names the page
mapped_key : (key : Key) (found : Mapping) → mapping_of key ≡ Some found → (found.page ≡ 0) ⊎ (named key ≡ Some (PageObject found.page))
mapped_key (PageKey page writable) found e =
    let same : record { writable = writable; page = page.0 } ≡ found = cc in
    let number : page.0 ≡ found.page = ap (λ (m : Mapping). m.page) same in
    ⊎_elim
    (λ (t : page.0 ≡ 0). inl (sym number ∙ t))
    (λ (t : page.0 ≡ 0 → ⊥). inr (let is : named (PageKey page writable) ≡ Some (PageObject page.0) = rw (ne_eqb page.0 0 t) refl in is ∙ ap (λ n. Some (PageObject n)) number))
    (cases_eq page.0 0)
mapped_key _ found e = let no : None ≡ Some found = e in cc

map_key : (keys : ℕ → Key) (space page : ℕ) (found : Mapping) → map_of keys space page ≡ Some found → mapping_of (key_at_page keys space page) ≡ Some found
unfolding map_of
map_key keys space page found e = ⊎_elim
    (λ (t : nat_lt page (2 ^ 19) ≡ true). rw t at e)
    (λ (t : nat_lt page (2 ^ 19) ≡ false). let no : None ≡ Some found = rw t at e in cc)
    (cases_Bool (nat_lt page (2 ^ 19)))

-- a mapped page that isn't page 0 belongs to a tree
pub found_owned : (forest : Forest) (space page : ℕ) (found : Mapping) → Sound forest → IsSpace forest [] space → map_of forest.keys space page ≡ Some found → found.page ≢ 0
    → IsSome (forest.owner (PageObject found.page))
found_owned forest space page found sound is e real = ⊎_elim
    (λ (t : found.page ≡ 0). absurd (real t))
    (λ (t : named (key_at_page forest.keys space page) ≡ Some (PageObject found.page)). end_owned forest [] sound space is (page_way page) (PageObject found.page) t)
    (mapped_key (key_at_page forest.keys space page) found (map_key forest.keys space page found e))

-- a mapped page is page 0 or one of the bank
pub found_inside : (kernel : Kernel) (space page : ℕ) (found : Mapping) → BankGood kernel → Sound (forest_of kernel) → IsSpace (forest_of kernel) [] space
    → map_of (forest_of kernel).keys space page ≡ Some found → (found.page ≡ 0) ⊎ IsBankPage kernel.size found.page
found_inside kernel space page found good sound is e = ⊎_elim
    (λ (t : found.page ≡ 0). inl t)
    (λ (t : found.page ≢ 0). inr (its_page kernel found.page (page_inside kernel found.page good (found_owned (forest_of kernel) space page found sound is e t))))
    (cases_eq found.page 0)

-- what a memory has where the map has a page, or none
pub memory_is : (kernel : Kernel) (space page : ℕ) → at (space_memory kernel space) page ≡ option_map (page_of (memory_page kernel)) (map_of (forest_of kernel).keys space page)
unfolding memory_by at
memory_is kernel space page = refl

pub memory_found : (kernel : Kernel) (space page : ℕ) (found : Mapping) → map_of (forest_of kernel).keys space page ≡ Some found
    → at (space_memory kernel space) page ≡ Some (page_of (memory_page kernel) found)
memory_found kernel space page found e = memory_is kernel space page ∙ ap (option_map (page_of (memory_page kernel))) e

pub memory_none : (kernel : Kernel) (space page : ℕ) → map_of (forest_of kernel).keys space page ≡ None → at (space_memory kernel space) page ≡ None
memory_none kernel space page e = memory_is kernel space page ∙ ap (option_map (page_of (memory_page kernel))) e

pub memory_far : (kernel : Kernel) (space page : ℕ) → 2 ^ 19 ≤ page → at (space_memory kernel space) page ≡ None
memory_far kernel space page far = memory_none kernel space page (map_far (forest_of kernel).keys space page far)

-- the pages that are taken for a tree are of this tree's owner
pub tree_of_pages : (owner : Option Owner) → IsSome owner → page_tree (pages_for owner) ≡ owner
tree_of_pages None some = let no : false ≡ true = some in cc
tree_of_pages (Some OfProcess) some = refl
tree_of_pages (Some OfFile) some = refl
