-- How domains end.
use Rattle.std.specs.Prelude.{◌≡◌, ◌≢◌, ℕ, zero, suc, ◌+◌, ◌/◌, ◌%◌, ◌<◌, ◌⊎◌, nat_lt, true, false, Option, Some, None, List, [], ◌∷◌, ◌++◌, if◌then◌else◌}
use Rattle.kn_base.specs.declared.key.Key.{Key}
use Rattle.kn_base.specs.declared.key.Key.TheVariants.{Null, Node, Start, Domain as DomainKey}
use Rattle.kernel_tables.specs.Kernel.{Kernel}
use Rattle.kernel_tables.specs.Rows.{entry_at, domain_rows, fixed_rows}
use Rattle.kernel_tables.specs.declared.entry.NodeOwner.TheVariants.{Domain as DomainOwner}
use Rattle.kernel_tables.specs.declared.entry.Entry.TheVariants.{Taken}
use Rattle.kernel_tables.specs.Blocks.{key_block, machine_block, node_entry_block}
use Rattle.space_bank.specs.FreeList.{is_free}
use Rattle.space_bank.specs.Laws.{and_outside}
use Rattle.space_bank.specs.Shares.{Outside, Shares, NamesNothing, key_names_node}
use Rattle.kernel_forest.specs.Trees.{forest_of, outside_trees}
use Rattle.unix_model.specs.Tables.{at, with_at}
use Rattle.domain.specs.declared.types.Phase.TheVariants.{Exiting, Zombie}
use Rattle.domain.specs.Domains.{Domain, no_domain, domains, roots, Life, lives}
use Rattle.domain.specs.declared.types.State.TheVariants.{Available}
use Rattle.domain.specs.Rules.{written}
use Rattle.domain.specs.Life.{null_row, and_all}

-- A node of a domain is taken, and named once.
abbrev pub IsNodeOnce : Kernel → ℕ → Type 0
IsNodeOnce kernel node = entry_at kernel.node_entries node ≡ Taken DomainOwner 1

-- A domain may become a zombie: its process exits and holds nothing any more, and its two nodes of words are named once each.
pub record MayEnd (kernel : Kernel) (root : ℕ) : Type 0 where
  pub live : (at (domains kernel) root).live ≡ true
  pub whole : (at (domains kernel) root).whole ≡ true
  pub exiting : (at (domains kernel) root).phase ≡ Exiting
  pub no_space : (at (domains kernel) root).space ≡ None
  pub no_buffer : (at (domains kernel) root).buffer ≡ None
  pub closed : (number : ℕ) → at (at (domains kernel) root).descriptors number ≡ None
  pub regs_once : (node : ℕ) → (at (domains kernel) root).regs_node ≡ Some node → IsNodeOnce kernel node
  pub descriptors_once : (node : ℕ) → (at (domains kernel) root).descriptors_node ≡ Some node → IsNodeOnce kernel node

-- what is left of its domain: a zombie without nodes of words
abbrev pub ended : Domain → Domain
ended domain = record domain { whole = false; regs_node = None; descriptors_node = None; regs = λ n. 0; descriptors = λ n. None; phase = Zombie }

-- a row with Null at its first keys, and these keys
unfoldable pub with_nulls : (ℕ → Key) → ℕ → ℕ → Key
with_nulls row end = λ place. if nat_lt place end then Null else row place

unfoldable pub row_keys : (ℕ → Key) → ℕ → List Key
row_keys row zero = []
row_keys row (suc n) = row n ∷ row_keys row n

-- no key of a row names anything that is counted
abbrev pub IsQuiet : (ℕ → Key) → Type 0
IsQuiet row = (place : ℕ) → place < 16 → NamesNothing (Some (row place))

-- The first keys of a node of a domain are Null now. What they named from outside of trees is outside now.
pub record Clears (old new : Kernel) (node count : ℕ) : Type 0 where
  pub rest : new ≡ record old { keys = new.keys }
  pub forest_now : forest_of new ≡ forest_of old
  pub fixed_now : fixed_rows new ≡ fixed_rows old
  pub rows_now : domain_rows new ≡ with_at (domain_rows old) node (with_nulls (domain_rows old node) count)
  pub outside_now : (outside : Outside) → outside_trees new (and_all outside (row_keys (domain_rows old node) count)) ≡ outside_trees old outside
  pub shares : (outside : Outside) (hand : List Key) → Shares old outside hand → Shares new outside hand

-- only nodes were given back
abbrev pub KeepsAllButNodes : Kernel → Kernel → Type 0
KeepsAllButNodes old new =
    new
    ≡ record old {
      machine = record old.machine { free_node = new.machine.free_node; nodes_taken = new.machine.nodes_taken };
      node_entries = new.node_entries;
      keys = new.keys;
    }

-- A node of a domain was given back: it is free, and its keys are Null. The key in hand that named it is gone. The trees are as they
-- were.
pub record GivesBack (old new : Kernel) (node : ℕ) : Type 0 where
  pub rows_now : domain_rows new ≡ with_at (domain_rows old) node null_row
  pub fixed_now : fixed_rows new ≡ fixed_rows old
  pub forest_now : forest_of new ≡ forest_of old
  pub outside_now : (outside : Outside) → outside_trees new (and_all outside (row_keys (domain_rows old node) 16)) ≡ outside_trees old outside
  pub free : is_free (entry_at new.node_entries node) ≡ true
  pub others : (other : ℕ) → other ≢ node → entry_at new.node_entries other ≡ entry_at old.node_entries other
  pub rest : KeepsAllButNodes old new
  pub number : new.machine.nodes_taken + 1 ≡ old.machine.nodes_taken
  pub shares : (outside : Outside) (hand : List Key) (key : Key) → key_names_node node key ≡ true → Shares old outside (key ∷ hand) → Shares new outside hand

-- A domain became a zombie. Its two nodes of words, and no others, were given back, and the keys that named them are gone. The trees
-- are as they were.
pub record MakesZombie (old new : Kernel) (root : ℕ) : Type 0 where
  pub regs : ℕ
  pub descriptors : ℕ
  pub regs_were : (at (domains old) root).regs_node ≡ Some regs
  pub descriptors_were : (at (domains old) root).descriptors_node ≡ Some descriptors
  pub domains_now : domains new ≡ with_at (domains old) root (ended (at (domains old) root))
  pub lives_now : lives new ≡ lives old
  pub fixed_now : fixed_rows new ≡ fixed_rows old
  pub forest_now : forest_of new ≡ forest_of old
  pub outside_now : (outside : Outside)
      → outside_trees new (and_outside (and_outside outside (Node (record { 0 = regs }))) (Node (record { 0 = descriptors }))) ≡ outside_trees old outside
  pub entries : (node : ℕ) → node ≢ regs → node ≢ descriptors → entry_at new.node_entries node ≡ entry_at old.node_entries node
  pub entry_of_root : entry_at new.node_entries root ≡ entry_at old.node_entries root
  pub free : (node : ℕ) → (node ≡ regs) ⊎ (node ≡ descriptors) → is_free (entry_at new.node_entries node) ≡ true
  pub rest : KeepsAllButNodes old new
  pub number : new.machine.nodes_taken + 2 ≡ old.machine.nodes_taken
  pub shares : (outside : Outside) (hand : List Key) → Shares old outside hand → Shares new outside hand

-- the blocks that may change where a node is given back: its keys and its entry, and the machine's words
abbrev pub node_gone : Kernel → ℕ → List ℕ
node_gone kernel node = key_block kernel.pages node ∷ node_entry_block kernel.size node ∷ machine_block ∷ []

abbrev pub nodes_gone : Kernel → Option ℕ → List ℕ
nodes_gone kernel None = []
nodes_gone kernel (Some node) = node_gone kernel node

-- likewise where a domain becomes a zombie: those of its two nodes, and the keys of its root
abbrev pub ended_blocks : Kernel → ℕ → List ℕ
ended_blocks kernel root =
    key_block kernel.pages root ∷ (nodes_gone kernel (at (domains kernel) root).regs_node ++ nodes_gone kernel (at (domains kernel) root).descriptors_node)

-- A domain may be dropped: it is a zombie without a space and a buffer, and its root is named once.
pub record MayDrop (kernel : Kernel) (root : ℕ) : Type 0 where
  pub live : (at (domains kernel) root).live ≡ true
  pub zombie : (at (domains kernel) root).phase ≡ Zombie
  pub wordless : (at (domains kernel) root).whole ≡ false
  pub no_space : (at (domains kernel) root).space ≡ None
  pub no_buffer : (at (domains kernel) root).buffer ≡ None
  pub once : IsNodeOnce kernel root

-- what is read where there is no domain and no service
abbrev pub no_life : Life
no_life = record { state = Available; count = 0 }

-- The domain of a slot was dropped: its root was given back, and the slot is free. The key of the slot table and the keeper's in the
-- root are gone. The trees are as they were.
pub record DropsDomain (old new : Kernel) (slot root : ℕ) : Type 0 where
  pub domains_now : domains new ≡ with_at (domains old) root no_domain
  pub lives_now : lives new ≡ with_at (lives old) root no_life
  pub roots_now : roots new ≡ with_at (roots old) slot None
  pub fixed_now : fixed_rows new ≡ written (fixed_rows old) (11 + slot / 16) (slot % 16) Null
  pub forest_now : forest_of new ≡ forest_of old
  pub outside_now : (outside : Outside)
      → outside_trees new (and_outside (and_outside outside (DomainKey (record { 0 = root }))) (Start (record { 0 = 1 }) (at (domains old) root).slot)) ≡ outside_trees old outside
  pub entries : (node : ℕ) → node ≢ root → entry_at new.node_entries node ≡ entry_at old.node_entries node
  pub free : is_free (entry_at new.node_entries root) ≡ true
  pub rest : KeepsAllButNodes old new
  pub number : new.machine.nodes_taken + 1 ≡ old.machine.nodes_taken
  pub shares : (outside : Outside) (hand : List Key) → Shares old outside hand → Shares new outside hand

-- the blocks that may change where a domain is dropped: those of its root, and the slot table
abbrev pub dropped_blocks : Kernel → ℕ → ℕ → List ℕ
dropped_blocks kernel slot root = key_block kernel.pages (11 + slot / 16) ∷ node_gone kernel root
