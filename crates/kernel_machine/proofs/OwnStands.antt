-- A call that makes a page of a space its own leaves all other spaces.
use Rattle.std.proofs.Common.{◌≡◌, ◌≢◌, ℕ, Option, Some, [], ap, ◌∙◌, ⊎_elim}
use Rattle.std.proofs.lemmas.Bool.{cases_eq, ne_eqb}
use Rattle.kernel_tables.specs.declared.entry.PageOwner.{PageOwner}
use Rattle.kernel_tables.specs.Kernel.{Kernel, IsBankPage, memory_page}
use Rattle.space_bank.specs.Bank.{BankGood}
use Rattle.space_bank.specs.Shares.{Outside}
use Rattle.forest.specs.Forest.{IsSpace}
use Rattle.forest.specs.Walks.{Mapping, map_of}
use Rattle.kernel_forest.specs.Trees.{forest_of, TreesGood}
use Rattle.kernel_forest.proofs.Owners.{pages-taken}
use Rattle.seg_tree.specs.Writes.{Owns}
use Rattle.user_copy.proofs.Pages.{found_inside}
use Rattle.kernel_machine.specs.Standing as law
use Rattle.kernel_machine.proofs.SpacesStand.{memory-by-map}

module _ (old new : Kernel) (space page result : ℕ) (owner : PageOwner) (outside : Outside) (trees : TreesGood old outside []) (good : BankGood old) (owns : Owns old new space page result owner) where
  -- no other space reaches the page
  not-result : (other number : ℕ) (mapping : Mapping) → IsSpace (forest_of old) [] other → other ≢ space → map_of (forest_of old).keys other number ≡ Some mapping → mapping.page ≢ result
  not-result other number mapping is differs mapped same =
      let now = ap (λ (table : ℕ → Option Mapping). table number) ((owns.changes outside trees).1.others.maps other is differs) ∙ mapped in
      differs (owns.own.alone other number mapping ((owns.spaces other).0 is) now same).0

  same-bytes : (other number : ℕ) (mapping : Mapping) → IsSpace (forest_of old) [] other → other ≢ space → map_of (forest_of old).keys other number ≡ Some mapping
      → memory_page new mapping.page ≡ memory_page old mapping.page
  same-bytes other number mapping is differs mapped = ⊎_elim
      (λ (t : mapping.page ≡ 0). rw t (ap (λ (k : Kernel). k.page_zero) owns.rest))
      (λ (real : mapping.page ≢ 0).
      let inside = ⊎_elim (λ (z : mapping.page ≡ 0). absurd (real z)) (λ (b : IsBankPage old.size mapping.page). b) (found_inside old other number mapping good trees.held.sound is mapped) in
      rw (ne_eqb mapping.page 0 real) (owns.bytes mapping.page inside (not-result other number mapping is differs mapped)))
      (cases_eq mapping.page 0)

pub owns_leaves : law.OwnsLeaves
owns_leaves old new space page result owner outside trees good owns =
    let changes = (owns.changes outside trees).1 in
    record {
      spaces = owns.spaces;
      roots = changes.roots;
      memories = λ other is d. memory-by-map old new other (changes.others.maps other is d) (λ number mapping mapped. same-bytes old new space page result owner outside trees good owns other number mapping is d mapped);
      owned = λ other whose is d.
          pages-taken whose owner old new (map_of (forest_of old).keys other) (map_of (forest_of new).keys other) (changes.others.maps other is d) owns.owners_now;
      trees = λ all held. (owns.changes all held).0;
      inside = owns.inside;
      filled = owns.filled;
      rows_now = owns.rows_now;
      apart_now = owns.apart_now;
      rest = owns.rest;
    }
