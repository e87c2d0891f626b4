-- Whose the pages of a tree are, where its map changes, or pages are given back.
use Rattle.std.proofs.Common.{◌≡◌, ◌≢◌, ℕ, Option, Some, None, [], refl, ap, sym, ◌∙◌, ⊎_elim}
use Rattle.std.proofs.lemmas.Bool.{cases_eq}
use Rattle.kernel_tables.specs.declared.entry.PageOwner.{PageOwner}
use Rattle.kernel_tables.specs.Kernel.{Kernel}
use Rattle.unix_model.specs.Tables.{at, with_at}
use Rattle.unix_model.proofs.TableLaws.{at-with_at, at-with_at-other}
use Rattle.forest.specs.Forest.{IsSpace, Sound}
use Rattle.forest.specs.Walks.{Mapping, map_of}
use Rattle.kernel_forest.specs.Owners.{LeavesOwners, page_owners, PagesAreOf}
use Rattle.kernel_forest.specs.Trees.{forest_of}
use Rattle.kernel_forest.proofs.Owners.{pages-left, tree-by-somebody}
use Rattle.user_copy.proofs.Pages.{found_owned}

-- where nothing is mapped, nobody has a page
pub owned_none : (whose : PageOwner) (owners : ℕ → Option PageOwner) (map : ℕ → Option Mapping) → ((page : ℕ) → map page ≡ None)
    → PagesAreOf whose owners map
unfolding at
owned_none whose owners map none page mapping e real = let no : None ≡ Some mapping = sym (none page) ∙ e in cc

-- one page number maps something else, of which the owner is the same, or nothing
pub owned_with : (whose : PageOwner) (owners : ℕ → Option PageOwner) (map : ℕ → Option Mapping) (number : ℕ) (found : Option Mapping)
    → ((mapping : Mapping) → found ≡ Some mapping → mapping.page ≢ 0 → at owners mapping.page ≡ Some whose) → PagesAreOf whose owners map
    → PagesAreOf whose owners (with_at map number found)
owned_with whose owners map number found its was page mapping e real = ⊎_elim
    (λ (t : page ≡ number). its mapping (sym (at-with_at map number found) ∙ ap (at (with_at map number found)) (sym t) ∙ e) real)
    (λ (d : page ≢ number). was page mapping (sym (at-with_at-other map number page found d) ∙ e) real)
    (cases_eq page number)

-- pages may have been given back, but none that a space maps still
pub owned_left : (old new : Kernel) (space : ℕ) (whose : PageOwner) → LeavesOwners old new → Sound (forest_of new) → IsSpace (forest_of new) [] space
    → PagesAreOf whose (page_owners old) (map_of (forest_of new).keys space) → PagesAreOf whose (page_owners new) (map_of (forest_of new).keys space)
unfolding at
owned_left old new space whose leaves sound is =
    pages-left whose old new (map_of (forest_of new).keys space) (map_of (forest_of new).keys space) refl leaves
    (λ page mapping e real. tree-by-somebody new mapping.page (found_owned (forest_of new) space page mapping sound is e real))
