-- An own page stays own while it is written.
use Rattle.std.proofs.Common.{◌≡◌, ℕ, Some, List, sym, subst, ◌∙◌}
use Rattle.kernel_tables.specs.declared.entry.PageOwner.{PageOwner}
use Rattle.kernel_tables.specs.Kernel.{Kernel}
use Rattle.space_bank.specs.Bank.{BankGood}
use Rattle.forest.specs.Walks.{Mapping, map_of}
use Rattle.forest.specs.Calls.{IsOwn}
use Rattle.kernel_forest.specs.Trees.{forest_of}
use Rattle.seg_tree.specs.Writes.{Owns, writable_mapping}
use Rattle.bench_spaces.specs.Own.{HasOwnPage}

-- what is found at an own page is own
pub found_own : (kernel : Kernel) (space : ℕ) (owner : PageOwner) → HasOwnPage kernel space owner → (found : Mapping) → map_of (forest_of kernel).keys space 0 ≡ Some found
    → IsOwn (forest_of kernel) space 0 found
found_own kernel space owner has found mapped =
    let same : Some (writable_mapping has.result) ≡ Some found = sym has.own.mapped ∙ mapped in
    let is : writable_mapping has.result ≡ found = cc in
    subst (IsOwn (forest_of kernel) space 0) is has.own

-- so nothing changes where it is made own again
pub same_own : (old new : Kernel) (space result : ℕ) (owner : PageOwner) → HasOwnPage old space owner → Owns old new space 0 result owner → new ≡ old
same_own old new space result owner has owns = (owns.kept (found_own old space owner has owns.found owns.mapped)).1

pub other_bank : (kernel : Kernel) (bank : List (List ℕ)) (space : ℕ) (owner : PageOwner) → BankGood (record kernel { bank = bank })
    → HasOwnPage kernel space owner → HasOwnPage (record kernel { bank = bank }) space owner
other_bank kernel bank space owner good has = record {
  ready = record {
    good = good;
    zero = has.ready.zero;
    outside = has.ready.outside;
    trees = record {
      shares = has.ready.trees.shares;
      held = has.ready.trees.held;
      in_hand = has.ready.trees.in_hand;
      short = has.ready.trees.short;
      in_trees = has.ready.trees.in_trees;
      single = has.ready.trees.single;
    };
  };
  is = record { is_space = has.is.is_space; alone = has.is.alone };
  result = has.result;
  own = has.own;
  tree = has.tree;
  room = has.room;
}

pub written_own : (old mid new : Kernel) (bank : List (List ℕ)) (space result : ℕ) (owner : PageOwner) → HasOwnPage old space owner → Owns old mid space 0 result owner
    → BankGood new → new ≡ record mid { bank = bank } → HasOwnPage new space owner
written_own old mid new bank space result owner has owns good e =
    subst (λ k. HasOwnPage k space owner) (sym e)
    (other_bank mid bank space owner (subst BankGood e good) (subst (λ k. HasOwnPage k space owner) (sym (same_own old mid space result owner has owns)) has))
