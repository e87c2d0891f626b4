-- What the bank's calls are for the forest in its tables, and what is in hand after them.
use Rattle.std.specs.Prelude.{◌≡◌, ◌≢◌, ℕ, ◌+◌, ◌*◌, ◌<◌, ◌≤◌, ◌^◌, Bool, true, false, Some, None, IsSome, List, ◌∷◌}
use Rattle.kn_base.specs.declared.key.Key.{Key}
use Rattle.kn_base.specs.declared.key.Key.TheVariants.{Null, Page, Segment}
use Rattle.kn_base.specs.Memory.{zero_page}
use Rattle.kernel_tables.specs.declared.entry.PageOwner.{PageOwner}
use Rattle.kernel_tables.specs.declared.entry.NodeOwner.{NodeOwner}
use Rattle.kernel_tables.specs.declared.entry.NodeOwner.TheVariants.{Domain}
use Rattle.kernel_tables.specs.declared.entry.Entry.{Entry}
use Rattle.kernel_tables.specs.declared.entry.Entry.TheVariants.{Taken}
use Rattle.kernel_tables.specs.Kernel.{Kernel, IsBankPage, bank_page}
use Rattle.kernel_tables.specs.Rows.{entry_at, key_table, rows, IsApart, KeepsRows}
use Rattle.space_bank.specs.Changes.{key_written}
use Rattle.space_bank.specs.Laws.{and_outside}
use Rattle.space_bank.specs.Shares.{Outside, Shares, key_names_node}
use Rattle.unix_model.specs.Tables.{at, with_at}
use Rattle.forest.specs.Objects.{Object, PageObject, NodeObject, Owner, named}
use Rattle.forest.specs.Forest.{Forest}
use Rattle.forest.specs.Changes.{raised, with_key, with_taken, lowered, IsFree}
use Rattle.kernel_forest.specs.Trees.{forest_of, outside_trees, AreTreeKeys}
use Rattle.kernel_forest.specs.Apart.{KeepsApart}
use Rattle.kernel_forest.specs.Owners.{page_owners, KeepsOwners}

-- the trees have changed, and nothing else of the tables
abbrev pub KeepsRest : Kernel → Kernel → Type 0
KeepsRest old new =
    new
    ≡ record old {
      machine = record old.machine { free_node = new.machine.free_node; nodes_taken = new.machine.nodes_taken };
      page_entries = new.page_entries;
      node_entries = new.node_entries;
      keys = new.keys;
    }

-- The forest is another one now, so many nodes were taken, and what names trees from outside is as before.
pub record Steps (old new : Kernel) (forest : Forest) (taken : ℕ) : Type 0 where
  pub forest_now : forest_of new ≡ forest
  pub outside_now : (outside : Outside) → outside_trees new outside ≡ outside_trees old outside
  pub rows_now : KeepsRows old new
  pub apart_now : KeepsApart old new
  pub owners_now : KeepsOwners old new
  pub rest : KeepsRest old new
  pub number : new.machine.nodes_taken ≡ old.machine.nodes_taken + taken

-- what a key names belongs to a tree and may be counted once more
abbrev pub MayRaise : Forest → Key → Type 0
MayRaise forest key = (object : Object) → named key ≡ Some object → IsSome (forest.owner object) × (forest.count object + 1 < 2 ^ 32)

-- A key was raised, and is in hand.
pub record RaisesKey (old new : Kernel) (key : Key) : Type 0 where
  pub steps : Steps old new (raised (forest_of old) key) 0
  pub shares : (outside : Outside) (hand : List Key) → Shares old outside hand → Shares new outside (key ∷ hand)

-- A key was written at a place of a node of a tree, and the one that stood there is in hand.
pub record PutsKey (old new : Kernel) (place : ℕ) (key : Key) : Type 0 where
  pub steps : Steps old new (with_key (forest_of old) place key) 0
  pub shares : (outside : Outside) (hand : List Key) → Shares old outside (key ∷ hand) → Shares new outside (at (forest_of old).keys place ∷ hand)

-- A node was taken for a tree, and its key is in hand.
pub record TakesFresh (old new : Kernel) (node : ℕ) (owner : Owner) : Type 0 where
  pub high : 15 ≤ node
  pub steps : Steps old new (with_taken (forest_of old) (NodeObject node) owner) 1
  pub within : node < old.nodes
  pub unowned : (forest_of old).owner (NodeObject node) ≡ None
  pub free : (outside : Outside) (hand : List Key) → AreTreeKeys hand → Shares old outside hand
      → IsFree (forest_of old) (outside_trees old outside) hand (NodeObject node)
  pub shares : (outside : Outside) (hand : List Key) (height : ℕ) → Shares old outside hand
      → Shares new outside (Segment (record { 0 = node }) height ∷ hand)

-- the key of a node in hand was counted more than once, and is gone
pub record LowersKey (old new : Kernel) (key : Key) : Type 0 where
  pub steps : Steps old new (lowered (forest_of old) key) 0
  pub shares : (outside : Outside) (hand : List Key) → Shares old outside (key ∷ hand) → Shares new outside hand

-- steps after which no more is in hand than before
pub record Changes (old new : Kernel) (forest : Forest) (taken : ℕ) : Type 0 where
  pub steps : Steps old new forest taken
  pub shares : (outside : Outside) (hand : List Key) → Shares old outside hand → Shares new outside hand

-- A page was taken for a tree: it is zero, nothing named it, and its key is in hand.
pub record TakesFreshPage (old new : Kernel) (page : ℕ) (by : PageOwner) (owner : Owner) : Type 0 where
  pub inside : IsBankPage old.size page
  pub forest_now : forest_of new ≡ with_taken (forest_of old) (PageObject page) owner
  pub outside_now : (outside : Outside) → outside_trees new outside ≡ outside_trees old outside
  pub rows_now : KeepsRows old new
  pub apart_now : KeepsApart old new
  pub owners_now : page_owners new ≡ with_at (page_owners old) page (Some by)
  pub rest :
      new
      ≡ record old {
        machine = record old.machine { free_page = new.machine.free_page; memory_taken = new.machine.memory_taken; pages_taken = old.machine.pages_taken + 1 };
        page_entries = new.page_entries;
      }
  pub zero : bank_page new page ≡ zero_page
  pub unowned : (forest_of old).owner (PageObject page) ≡ None
  pub free : (outside : Outside) (hand : List Key) → AreTreeKeys hand → Shares old outside hand
      → IsFree (forest_of old) (outside_trees old outside) hand (PageObject page)
  pub shares : (outside : Outside) (hand : List Key) (writable : Bool) → Shares old outside hand
      → Shares new outside (Page (record { 0 = page }) writable ∷ hand)

-- A node was taken for a domain, and a key that names it is in hand. No tree has changed, and no row: the node's keys are
-- Null, and no row of any kind has a key that names it. The entries of pages stay.
pub record TakesRow (old new : Kernel) (node : ℕ) : Type 0 where
  pub high : 15 ≤ node
  pub within : node < old.nodes
  pub forest_now : forest_of new ≡ forest_of old
  pub outside_now : (outside : Outside) → outside_trees new outside ≡ outside_trees old outside
  pub rows_now : (mine : Entry NodeOwner → Bool) → IsApart mine → rows mine new.node_entries new.keys ≡ rows mine old.node_entries old.keys
  pub entry : entry_at new.node_entries node ≡ Taken Domain 1
  pub others : (other : ℕ) → other ≢ node → entry_at new.node_entries other ≡ entry_at old.node_entries other
  pub nulls : (place : ℕ) → place < 16 → key_table new.keys (16 * node + place) ≡ Null
  pub unnamed : (outside : Outside) (hand : List Key) → Shares old outside hand
      → (mine : Entry NodeOwner → Bool) (other place : ℕ) → key_names_node node (rows mine new.node_entries new.keys other place) ≡ false
  pub shares : (outside : Outside) (hand : List Key) (key : Key) → key_names_node node key ≡ true → Shares old outside hand → Shares new outside (key ∷ hand)
  pub pages_now : new.page_entries ≡ old.page_entries
  pub rest : KeepsRest old new
  pub number : new.machine.nodes_taken ≡ old.machine.nodes_taken + 1

-- A key was written in a node that belongs to no tree, of a domain or a fixed one, and the one that stood there is in hand.
-- No tree has changed. What names trees from outside is as before, if the key and the one that stood there are counted in:
-- so a space's key that was in hand is handed over to the node. One row has another key now.
pub record PutsRow (old new : Kernel) (node place : ℕ) (key : Key) : Type 0 where
  pub state : new ≡ key_written old node place key
  pub forest_now : forest_of new ≡ forest_of old
  pub outside_now : (outside : Outside)
      → outside_trees new (and_outside outside (key_table old.keys (16 * node + place))) ≡ outside_trees old (and_outside outside key)
  pub rows_now : (mine : Entry NodeOwner → Bool) → mine (entry_at old.node_entries node) ≡ true
      → rows mine new.node_entries new.keys
      ≡ with_at (rows mine old.node_entries old.keys) node (with_at (at (rows mine old.node_entries old.keys) node) place key)
  pub others_now : (mine : Entry NodeOwner → Bool) → mine (entry_at old.node_entries node) ≡ false
      → rows mine new.node_entries new.keys ≡ rows mine old.node_entries old.keys
  pub shares : (outside : Outside) (hand : List Key) → Shares old outside (key ∷ hand) → Shares new outside (key_table old.keys (16 * node + place) ∷ hand)

-- A node of a domain whose keys are Null was given back. No tree has changed, and no row.
pub record GivesRow (old new : Kernel) (node : ℕ) : Type 0 where
  pub forest_now : forest_of new ≡ forest_of old
  pub outside_now : (outside : Outside) → outside_trees new outside ≡ outside_trees old outside
  pub rows_now : KeepsRows old new
  pub rest : KeepsRest old new
