-- The keys of nodes as rows, told apart by who owns the node. The key at each place of any other node is Null, and so is
-- each key of a fresh node: taking one, or giving one back, leaves the rows as they are.
use Rattle.std.specs.Prelude.{◌≡◌, ℕ, ◌+◌, ◌*◌, ◌&&◌, nat_lt, Bool, true, false, if◌then◌else◌, Option, Some, None, List, slice_index_or}
use Rattle.kn_base.specs.declared.key.Key.{Key}
use Rattle.kn_base.specs.declared.key.Key.TheVariants.{Null}
use Rattle.kernel_tables.specs.declared.entry.NodeOwner.{NodeOwner}
use Rattle.kernel_tables.specs.declared.entry.NodeOwner.TheVariants.{Domain, Tree, FileTree}
use Rattle.kernel_tables.specs.declared.entry.Entry.{Entry}
use Rattle.kernel_tables.specs.declared.entry.Entry.TheVariants.{Free, Taken, Fixed, Unspelled}
use Rattle.kernel_tables.specs.Kernel.{Kernel}

-- the entry of an object
abbrev pub entry_at : {O : Type 0} → List (Entry O) → ℕ → Entry O
entry_at entries n = slice_index_or entries n Unspelled

-- the key at a place, and Null where none is spelled
abbrev pub spelled_or_null : Option Key → Key
spelled_or_null None = Null
spelled_or_null (Some key) = key

unfoldable pub key_table : List (Option Key) → ℕ → Key
key_table keys place = spelled_or_null (slice_index_or keys place None)

-- the keys of the nodes whose entry passes the test, by node and place
unfoldable pub rows : (Entry NodeOwner → Bool) → List (Entry NodeOwner) → List (Option Key) → ℕ → ℕ → Key
rows mine entries keys = λ node place. if mine (entry_at entries node) && nat_lt place 16 then key_table keys (16 * node + place) else Null

-- nodes of domains, and fixed ones
abbrev pub of_domain : Entry NodeOwner → Bool
of_domain (Free next) = false
of_domain (Taken Domain count) = true
of_domain (Taken Tree count) = false
of_domain (Taken FileTree count) = false
of_domain Fixed = false
of_domain Unspelled = false

abbrev pub is_fixed : Entry NodeOwner → Bool
is_fixed (Free next) = false
is_fixed (Taken owner count) = false
is_fixed Fixed = true
is_fixed Unspelled = false

abbrev pub domain_rows : Kernel → ℕ → ℕ → Key
domain_rows kernel = rows of_domain kernel.node_entries kernel.keys

abbrev pub fixed_rows : Kernel → ℕ → ℕ → Key
fixed_rows kernel = rows is_fixed kernel.node_entries kernel.keys

-- A test by which nodes are told apart so passes no node of a tree and no free one, and doesn't look at how often a node is
-- counted.
pub record IsApart (mine : Entry NodeOwner → Bool) : Type 0 where
  pub free : (next : ℕ) → mine (Free next) ≡ false
  pub tree : (count : ℕ) → mine (Taken Tree count) ≡ false
  pub file_tree : (count : ℕ) → mine (Taken FileTree count) ≡ false
  pub counted : (owner : NodeOwner) (count other : ℕ) → mine (Taken owner count) ≡ mine (Taken owner other)

-- whatever is no tree's has the keys that it had
abbrev pub KeepsRows : Kernel → Kernel → Type 0
KeepsRows old new =
    (mine : Entry NodeOwner → Bool) → IsApart mine → rows mine new.node_entries new.keys ≡ rows mine old.node_entries old.keys
