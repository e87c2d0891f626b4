-- How domains are born and end.
use Rattle.std.specs.Prelude.{◌≡◌, ◌≢◌, ℕ, ◌+◌, ◌/◌, ◌%◌, ◌<◌, ◌≤◌, ◌⊎◌, nat_lt, true, Some, List, [], ◌∷◌, ◌++◌, replicate, if◌then◌else◌}
use Rattle.kn_base.specs.declared.key.Key.{Key}
use Rattle.kn_base.specs.declared.key.Key.TheVariants.{Null, Number, Node, Start, Meter, Domain as DomainKey}
use Rattle.kernel_tables.specs.Kernel.{Kernel}
use Rattle.kernel_tables.specs.Rows.{entry_at, domain_rows, fixed_rows}
use Rattle.kernel_tables.specs.declared.entry.NodeOwner.TheVariants.{Domain as DomainOwner}
use Rattle.kernel_tables.specs.declared.entry.Entry.TheVariants.{Taken}
use Rattle.kernel_tables.specs.Blocks.{key_block, machine_block, node_entry_block}
use Rattle.space_bank.specs.Bank.{BankGood}
use Rattle.space_bank.specs.FreeList.{is_free}
use Rattle.space_bank.specs.Laws.{and_outside}
use Rattle.space_bank.specs.Shares.{Outside, Shares}
use Rattle.kernel_forest.specs.Trees.{forest_of, outside_trees}
use Rattle.kernel_forest.specs.Moves.{KeepsRest}
use Rattle.unix_model.specs.Tables.{at, with_at}
use Rattle.domain.specs.declared.types.State.TheVariants.{Running}
use Rattle.domain.specs.Domains.{Domain, no_domain, domains, life_in, lives, roots}
use Rattle.domain.specs.Keys.{key_of_space}
use Rattle.domain.specs.Rules.{RowsGood, NumberFits, written}

-- the number of three zeros, and a row with it from one place on, below another
abbrev pub zero_number : Key
zero_number = Number (replicate 12 0)

unfoldable pub with_zeros : (ℕ → Key) → ℕ → ℕ → ℕ → Key
with_zeros row from end = λ place. if nat_lt place from then row place else if nat_lt place end then zero_number else row place

abbrev pub null_row : ℕ → Key
null_row = λ place. Null

-- what is outside, and several keys more
unfoldable pub and_all : Outside → List Key → Outside
and_all outside [] = outside
and_all outside (key ∷ keys) = and_outside (and_all outside keys) key

-- Keys were written at places of a node of a domain where Null stood. Those that name something were in hand, or outside, before
-- and are the node's now.
pub record Fills (old new : Kernel) (node : ℕ) (row : ℕ → Key) (spent : List Key) : Type 0 where
  pub rest : new ≡ record old { keys = new.keys }
  pub forest_now : forest_of new ≡ forest_of old
  pub fixed_now : fixed_rows new ≡ fixed_rows old
  pub rows_now : domain_rows new ≡ with_at (domain_rows old) node row
  pub outside_now : (outside : Outside) → outside_trees new outside ≡ outside_trees old (and_all outside spent)
  pub shares : (outside : Outside) (hand : List Key) → Shares old outside (spent ++ hand) → Shares new outside hand

-- the key of a slot in the slot table
abbrev pub slot_key : Kernel → ℕ → Key
slot_key kernel slot = fixed_rows kernel (11 + slot / 16) (slot % 16)

-- a process that was just made: it runs, with zeros in all its words and no descriptor
abbrev pub born : ℕ → ℕ → ℕ → ℕ → Domain
born slot space regs descriptors =
    record no_domain { live = true; whole = true; regs_node = Some regs; descriptors_node = Some descriptors; slot = slot; space = Some space }

-- the rows of the two nodes of words of a fresh domain, and of its root
abbrev pub zero_row : ℕ → Key
zero_row = with_zeros null_row 0 11

unfoldable pub root_row : Key → ℕ → ℕ → ℕ → ℕ → ℕ → Key
root_row life slot space regs descriptors =
    with_at (with_at (with_at (with_at (with_at (with_at (with_zeros null_row 7 13) 6 life) 2 (Meter slot)) 0 (key_of_space (Some space))) 1 (Start (record { 0 = 1 }) slot))
    3 (Node (record { 0 = regs }))) 4 (Node (record { 0 = descriptors }))

-- the keys that the root of a fresh domain takes over
abbrev pub root_keys : ℕ → ℕ → ℕ → ℕ → List Key
root_keys slot space regs descriptors = key_of_space (Some space) ∷ Start (record { 0 = 1 }) slot ∷ Node (record { 0 = regs }) ∷ Node (record { 0 = descriptors }) ∷ []

-- The keys of the root of a fresh domain were written.
pub record FillsRoot (old new : Kernel) (root slot space regs descriptors : ℕ) : Type 0 where
  pub life : Key
  pub runs : life_in life ≡ record { state = Running; count = 0 }
  pub fits : NumberFits 6 life
  pub fills : Fills old new root (root_row life slot space regs descriptors) (root_keys slot space regs descriptors)

-- A domain was made in a free slot. Three nodes were taken for it. The one key of its space, which was in hand or outside, is the
-- domain's now. The trees are as they were, and so are the entries of pages.
pub record MakesDomain (old new : Kernel) (slot space root : ℕ) : Type 0 where
  pub regs : ℕ
  pub descriptors : ℕ
  pub high : 15 ≤ root
  pub within : root < new.nodes
  pub was_none : at (domains old) root ≡ no_domain
  pub domains_now : domains new ≡ with_at (domains old) root (born slot space regs descriptors)
  pub lives_now : lives new ≡ with_at (lives old) root (record { state = Running; count = 0 })
  pub roots_now : roots new ≡ with_at (roots old) slot (Some root)
  pub fixed_now : fixed_rows new ≡ written (fixed_rows old) (11 + slot / 16) (slot % 16) (DomainKey (record { 0 = root }))
  pub forest_now : forest_of new ≡ forest_of old
  pub outside_now : (outside : Outside) → outside_trees new outside
      ≡ outside_trees old (and_all outside (root_keys slot space regs descriptors ++ DomainKey (record { 0 = root }) ∷ []))
  pub entries : (node : ℕ) → node ≢ regs → node ≢ descriptors → node ≢ root → entry_at new.node_entries node ≡ entry_at old.node_entries node
  pub free : (node : ℕ) → (node ≡ regs) ⊎ (node ≡ descriptors) ⊎ (node ≡ root) → is_free (entry_at old.node_entries node) ≡ true
  pub entry_of_root : entry_at new.node_entries root ≡ Taken DomainOwner 1
  pub entry_of_regs : entry_at new.node_entries regs ≡ Taken DomainOwner 1
  pub entry_of_descriptors : entry_at new.node_entries descriptors ≡ Taken DomainOwner 1
  pub pages_now : new.page_entries ≡ old.page_entries
  pub rest : KeepsRest old new
  pub number : new.machine.nodes_taken ≡ old.machine.nodes_taken + 3
  pub shares : (outside : Outside) (hand : List Key) → Shares old outside (key_of_space (Some space) ∷ hand) → Shares new outside hand

-- Where no node is taken, the rows of domains hold Null keys alone.
abbrev pub UntakenRowsGood : Type 0
UntakenRowsGood = (kernel : Kernel) → BankGood kernel → kernel.machine.nodes_taken ≡ 0 → RowsGood (domain_rows kernel)

-- the blocks that may change where a domain is made: the entries and keys of its three nodes, the machine's words, and the slot table
abbrev pub node_made : Kernel → ℕ → List ℕ
node_made kernel node = node_entry_block kernel.size node ∷ machine_block ∷ key_block kernel.pages node ∷ []

abbrev pub born_blocks : Kernel → ℕ → ℕ → ℕ → ℕ → List ℕ
born_blocks kernel slot regs descriptors root =
    node_made kernel regs ++ (node_made kernel descriptors ++ (node_made kernel root ++ key_block kernel.pages (11 + slot / 16) ∷ []))
