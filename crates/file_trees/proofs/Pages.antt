-- The pages of a tree, by the map of its space.
use Rattle.std.proofs.Common.{◌≡◌, ◌≢◌, ℕ, zero, suc, ◌+◌, ◌-◌, ◌≤◌, Option, Some, None, length, take, replicate, refl, ap, ◌∙◌, arith, ⊎_elim}
use Rattle.std.proofs.lemmas.Bool.{cases_eq}
use Rattle.std.proofs.lemmas.List.{length-replicate, take-replicate, drop-replicate}
use Rattle.kn_base.specs.Memory.{zero_page}
use Rattle.kn_base.specs.Rows.{part_at}
use Rattle.kernel_tables.specs.Kernel.{Kernel, memory_page}
use Rattle.space_bank.specs.Bank.{BankGood}
use Rattle.unix_model.specs.Memory.{Memory}
use Rattle.unix_model.specs.Tables.{at, nothing}
use Rattle.forest.specs.Forest.{Sound}
use Rattle.forest.specs.Walks.{Mapping, map_of}
use Rattle.kernel_forest.specs.Trees.{forest_of}
use Rattle.user_copy.specs.SpaceMemory.{space_memory}
use Rattle.user_copy.proofs.Pages.{found_inside, memory_found, memory_none}
use Rattle.user_copy.proofs.Pieces.{WholePages}
use Rattle.kernel_machine.specs.Contents.{mapped_bytes}
use Rattle.kernel_machine.specs.Machine.{machine_of}
use Rattle.kernel_machine.specs.View.{file_memory, memory_in}
use Rattle.file_trees.specs.Trees.{IsTree, tree_memory, tree_page}
use Rattle.file_trees.proofs.Contents.{WholeTree}

-- the memory of a tree is that of its space
pub tree_is_space : (kernel : Kernel) (root : ℕ) → root ≢ 0 → tree_memory kernel root ≡ space_memory kernel root
unfolding file_memory memory_in machine_of
tree_is_space kernel zero some = absurd (some refl)
tree_is_space kernel (suc root) some = refl

pub page_absent : (kernel : Kernel) (root number : ℕ) → root ≡ 0 → tree_page (tree_memory kernel root) number ≡ zero_page
unfolding file_memory nothing at
page_absent kernel zero number e = refl
page_absent kernel (suc root) number e = absurd (omega arith)

pub page_found : (kernel : Kernel) (root number : ℕ) (found : Mapping) → root ≢ 0 → map_of (forest_of kernel).keys root number ≡ Some found
    → tree_page (tree_memory kernel root) number ≡ memory_page kernel found.page
page_found kernel root number found some e =
    ap (λ (memory : Memory). tree_page memory number) (tree_is_space kernel root some) ∙ ap mapped_bytes (memory_found kernel root number found e)

pub page_none : (kernel : Kernel) (root number : ℕ) → root ≢ 0 → map_of (forest_of kernel).keys root number ≡ None → tree_page (tree_memory kernel root) number ≡ zero_page
page_none kernel root number some e =
    ap (λ (memory : Memory). tree_page memory number) (tree_is_space kernel root some) ∙ ap mapped_bytes (memory_none kernel root number e)

-- a part of a page of zeros
pub zero_part : (place n : ℕ) → place + n ≤ 4096 → part_at zero_page place n ≡ replicate n 0
unfolding zero_page
zero_part place n inside = ap (take n) (drop-replicate place 4096 0) ∙ take-replicate n (4096 - place) 0 (omega arith)

pub zero_long : length zero_page ≡ 4096
unfolding zero_page
zero_long = length-replicate {A = ℕ} 4096 0

-- all pages of a tree have their 4,096 bytes
pub tree_whole : (kernel : Kernel) (root : ℕ) → BankGood kernel → Sound (forest_of kernel) → IsTree kernel root → WholePages kernel → WholeTree (tree_memory kernel root)
tree_whole kernel root good sound tree pages number = ⊎_elim
    (λ (t : root ≡ 0). ap length (page_absent kernel root number t) ∙ zero_long)
    (λ (some : root ≡ 0 → ⊥). go some (map_of (forest_of kernel).keys root number) refl)
    (cases_eq root 0)
  where
    go : root ≢ 0 → (found : Option Mapping) → map_of (forest_of kernel).keys root number ≡ found → length (tree_page (tree_memory kernel root) number) ≡ 4096
    go some None e = ap length (page_none kernel root number some e) ∙ zero_long
    go some (Some found) e =
        ap length (page_found kernel root number found some e) ∙ pages.whole found.page (found_inside kernel root number found good sound (tree some) e)
