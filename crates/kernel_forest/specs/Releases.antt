-- Keys in hand are released: counts fall, and what nothing names any more is given back.
use Rattle.std.specs.Prelude.{◌≡◌, ℕ, IsSome, List, ◌++◌}
use Rattle.kn_base.specs.declared.key.Key.{Key}
use Rattle.kernel_tables.specs.Kernel.{Kernel, IsBankPage, bank_page}
use Rattle.kernel_tables.specs.Rows.{KeepsRows}
use Rattle.space_bank.specs.Shares.{Outside, Shares}
use Rattle.forest.specs.Objects.{Object, PageObject}
use Rattle.forest.specs.Forest.{Held}
use Rattle.forest.specs.Release.{Release}
use Rattle.kernel_forest.specs.Trees.{forest_of, outside_trees, AreTreeKeys}
use Rattle.kernel_forest.specs.Apart.{KeepsApart}
use Rattle.kernel_forest.specs.Owners.{LeavesOwners}

-- what holds between steps of a release
pub record Releasing (kernel : Kernel) (outside : Outside) (hand : List Key) : Type 0 where
  pub shares : Shares kernel outside hand
  pub held : Held (forest_of kernel) (outside_trees kernel outside) hand
  pub in_hand : AreTreeKeys hand

-- parts of trees were given back, and nothing else of the tables has changed
abbrev pub KeepsUnreleased : Kernel → Kernel → Type 0
KeepsUnreleased old new =
    new
    ≡ record old {
      machine = record old.machine {
        free_page = new.machine.free_page;
        free_node = new.machine.free_node;
        memory_taken = new.machine.memory_taken;
        pages_taken = new.machine.pages_taken;
        nodes_taken = new.machine.nodes_taken;
      };
      page_entries = new.page_entries;
      node_entries = new.node_entries;
      bank = new.bank;
      keys = new.keys;
    }

-- Nothing belongs to a tree that didn't, and each page has the bytes that it had, unless it belonged to a tree and was given
-- back.
pub record KeepsBytes (old new : Kernel) : Type 0 where
  pub fewer : (object : Object) → IsSome ((forest_of new).owner object) → IsSome ((forest_of old).owner object)
  pub bytes : (page : ℕ) → IsBankPage old.size page → (IsSome ((forest_of old).owner (PageObject page)) → IsSome ((forest_of new).owner (PageObject page)))
      → bank_page new page ≡ bank_page old page

-- Steps of a release that turn some keys in hand into others, before whatever else is in hand.
pub record Lets (old new : Kernel) (before after : List Key) : Type 0 where
  pub lets : (outside : Outside) (hand : List Key) → Releasing old outside (before ++ hand)
      → Releasing new outside (after ++ hand) × Release (forest_of old) (before ++ hand) (forest_of new) (after ++ hand)
  pub outside_now : (outside : Outside) → outside_trees new outside ≡ outside_trees old outside
  pub rows_now : KeepsRows old new
  pub apart_now : KeepsApart old new
  pub owners_now : LeavesOwners old new
  pub rest : KeepsUnreleased old new
  pub keeps : KeepsBytes old new

-- some keys are in hand, before whatever else
abbrev pub InHand : Kernel → List Key → Type 0
InHand kernel keys = (outside : Outside) × (hand : List Key) × Releasing kernel outside (keys ++ hand)
