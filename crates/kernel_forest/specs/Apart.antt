-- What of the tables belongs to no tree: the entries of nodes and pages that are taken for something else, and the bytes of
-- such pages. And what holds of all pages of trees.
use Rattle.std.specs.Prelude.{◌≡◌, ℕ, if◌then◌else◌, Option, is_some, List, [], slice_index_or}
use Rattle.kernel_tables.specs.declared.entry.PageOwner.{PageOwner}
use Rattle.kernel_tables.specs.declared.entry.NodeOwner.{NodeOwner}
use Rattle.kernel_tables.specs.declared.entry.Entry.{Entry}
use Rattle.kernel_tables.specs.declared.entry.Entry.TheVariants.{Free, Taken, Fixed, Unspelled}
use Rattle.kernel_tables.specs.Kernel.{Kernel}
use Rattle.kernel_tables.specs.Rows.{entry_at}
use Rattle.space_bank.specs.Shares.{Outside}
use Rattle.forest.specs.Objects.{Owner}
use Rattle.forest.specs.Forest.{NoPageOutside}
use Rattle.kernel_forest.specs.Trees.{forest_of, outside_trees, page_tree, node_tree}

-- an entry, where the object belongs to no tree: one that does is taken for a free one
abbrev pub apart_entry : {O : Type 0} → (O → Option Owner) → Entry O → Entry O
apart_entry tree (Free next) = Free 0
apart_entry tree (Taken owner count) = if is_some (tree owner) then Free 0 else Taken owner count
apart_entry tree Fixed = Fixed
apart_entry tree Unspelled = Unspelled

-- the bytes of a page with such an entry
abbrev pub apart_bytes : Entry PageOwner → List ℕ → List ℕ
apart_bytes (Free next) bytes = []
apart_bytes (Taken owner count) bytes = bytes
apart_bytes Fixed bytes = bytes
apart_bytes Unspelled bytes = bytes

-- Nodes by their numbers, and pages and their bytes by their places in the bank.
pub record Apart : Type 0 where
  pub nodes : ℕ → Entry NodeOwner
  pub pages : ℕ → Entry PageOwner
  pub bytes : ℕ → List ℕ

unfoldable pub apart_by : List (Entry PageOwner) → List (Entry NodeOwner) → List (List ℕ) → Apart
apart_by pages nodes bank = record {
  nodes = λ n. apart_entry node_tree (entry_at nodes n);
  pages = λ n. apart_entry page_tree (entry_at pages n);
  bytes = λ n. apart_bytes (apart_entry page_tree (entry_at pages n)) (slice_index_or bank n []);
}

abbrev pub apart_of : Kernel → Apart
apart_of kernel = apart_by kernel.page_entries kernel.node_entries kernel.bank

-- whatever belongs to no tree is as it was
abbrev pub KeepsApart : Kernel → Kernel → Type 0
KeepsApart old new = apart_of new ≡ apart_of old

-- pages of trees are named by keys of trees alone, where they were so before
abbrev pub KeepsInside : Kernel → Kernel → Outside → Type 0
KeepsInside old new outside = NoPageOutside (forest_of old) (outside_trees old outside) → NoPageOutside (forest_of new) (outside_trees new outside)
