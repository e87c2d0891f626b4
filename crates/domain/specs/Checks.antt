-- What is asked of the domain of a slot, over the keys as they stand, whoever owns their nodes.
use Rattle.std.specs.Prelude.{◌≡◌, ℕ, ◌+◌, ◌/◌, ◌%◌, ◌<◌, ◌≤◌, true, Some}
use Rattle.kn_base.specs.declared.key.Key.{Key}
use Rattle.kn_base.specs.declared.key.Key.TheVariants.{Null, Number, Page, Node, Segment, Start, Resume, Domain, Meter, Service}
use Rattle.kernel_tables.specs.Kernel.{Kernel}
use Rattle.kernel_tables.specs.Rows.{key_table, rows}
use Rattle.unix_model.specs.Tables.{at}
use Rattle.domain.specs.Keys.{is_number, node_in, root_in}
use Rattle.domain.specs.Domains.{domain_at, life_in}
use Rattle.domain.specs.Rules.{RootGood, RootPlaces, RegistersGood, DescriptorsGood}
use Rattle.domain.specs.Phases.{state_for, key_for, FitsPhase}

-- the keys of all nodes as rows
abbrev pub node_rows : Kernel → ℕ → ℕ → Key
node_rows kernel = rows (λ entry. true) kernel.node_entries kernel.keys

-- what a Node key or a Domain key names is one of so many nodes, ..
pub record KeyInRange (nodes : ℕ) (key : Key) : Type 0 where
  pub node : (node : ℕ) → node_in key ≡ Some node → node < nodes
  pub root : (root : ℕ) → root_in key ≡ Some root → root < nodes

-- .. at each place of a node, whoever owns it
abbrev pub KeysInRange : Kernel → Type 0
KeysInRange kernel = (place : ℕ) → KeyInRange kernel.nodes (key_table kernel.keys place)

-- numbers at keys 0 to 10 of a node, and Null behind them
pub record HasWords (row : ℕ → Key) : Type 0 where
  pub numbers : (place : ℕ) → place < 11 → is_number (row place) ≡ true
  pub blank : (place : ℕ) → 11 ≤ place → row place ≡ Null

-- A root with its two nodes of words is that of the domain of a slot, which goes on by this key of the resume room: each key is
-- right by itself, and state, resume key, space, nodes, buffer, request, answer and word agree with the phase.
pub record IsDomainOf (rows : ℕ → ℕ → Key) (room : Key) (slot root : ℕ) : Type 0 where
  pub meter : rows root 2 ≡ Meter slot
  pub places : RootPlaces (rows root)
  pub good : RootGood (rows root)
  pub registers : (node : ℕ) → node_in (rows root 3) ≡ Some node → HasWords (rows node) × RegistersGood (rows node)
  pub descriptors : (node : ℕ) → node_in (rows root 4) ≡ Some node → HasWords (rows node) × DescriptorsGood (rows node)
  pub fits : FitsPhase (at (domain_at rows) root) (at (domain_at rows) root).phase
  pub state : (life_in (rows root 6)).state ≡ state_for (at (domain_at rows) root).phase
  pub key : room ≡ key_for root (life_in (rows root 6)).count (at (domain_at rows) root).phase

-- A slot is free, or its key in the slot table names such a root.
abbrev pub IsRightSlot : (ℕ → ℕ → Key) → Key → ℕ → Key → Type 0
IsRightSlot rows room slot Null = Unit {0}
IsRightSlot rows room slot (Number body) = ⊥
IsRightSlot rows room slot (Page page writable) = ⊥
IsRightSlot rows room slot (Node node) = ⊥
IsRightSlot rows room slot (Segment node height) = ⊥
IsRightSlot rows room slot (Start root byte) = ⊥
IsRightSlot rows room slot (Resume root count) = ⊥
IsRightSlot rows room slot (Domain root) = IsDomainOf rows room slot root.0
IsRightSlot rows room slot (Meter number) = ⊥
IsRightSlot rows room slot (Service code) = ⊥

-- the slot of a store: its place of the resume room is in nodes 7 to 10, and its key of the slot table in nodes 11 to 14
abbrev pub SlotGood : Kernel → ℕ → Type 0
SlotGood kernel slot = IsRightSlot (node_rows kernel) (node_rows kernel (7 + slot / 16) (slot % 16)) slot (node_rows kernel (11 + slot / 16) (slot % 16))
