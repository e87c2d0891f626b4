-- What the fixed pages and nodes hold beside their tables: page 0, the unused words of the machine page, and the nodes 0
-- to 14. Node 0 has Null keys, nodes 1 to 6 are the roots of the services, nodes 7 to 10 are the resume room and nodes 11
-- to 14 the slot table, in which slot s has key s % 16 of node s / 16.
use Rattle.std.specs.Prelude.{◌≡◌, ◌≢◌, ℕ, ◌+◌, ◌*◌, ◌<◌, ◌≤◌, ◌^◌, Option, Some, None, List, replicate, slice_index_or, ⊤}
use Rattle.kn_base.specs.declared.key.Key.{Key}
use Rattle.kn_base.specs.declared.key.Key.TheVariants.{Null, Number, Page, Node, Segment, Start, Resume, Domain, Meter, Service}
use Rattle.kn_base.specs.Keys.{counted_body}
use Rattle.kn_base.specs.Memory.{zero_page}
use Rattle.kernel_tables.specs.declared.row.Row.{Row}
use Rattle.kernel_tables.specs.declared.row.Row.TheVariants.{Free, Used, Unspelled}
use Rattle.kernel_tables.specs.declared.inode.InodeKind.TheVariants.{Dir, Console}
use Rattle.kernel_tables.specs.declared.inode.Inode.{Inode}
use Rattle.kernel_tables.specs.declared.description.Description.{Description}

-- the key at a place of a node, if the bytes there spell one
abbrev pub key_in : List (Option Key) → ℕ → ℕ → Option Key
key_in keys node place = slice_index_or keys (16 * node + place) None

-- Page 0 is zero, and so are the words of the machine page behind the ten that are used.
pub record UnusedGood (page_zero other_words : List ℕ) : Type 0 where
  pub zero : page_zero ≡ zero_page
  pub words : other_words ≡ replicate 1014 0

-- the state of a domain (0 available, 1 running, 2 waiting) and how many calls it has made, as key 6 of its root
abbrev pub state_key : ℕ → ℕ → Key
state_key state calls = Number (counted_body state calls)

-- The root of the service of this number: its Service key, its state and its number of calls; else Null keys.
pub record IsServiceRoot (keys : List (Option Key)) (service state calls : ℕ) : Type 0 where
  pub own_key : key_in keys service 0 ≡ Some (Service service)
  pub life : key_in keys service 6 ≡ Some (state_key state calls)
  pub few : calls < 2 ^ 64
  pub others : (place : ℕ) → place < 16 → place ≢ 0 → place ≢ 6 → key_in keys service place ≡ Some Null

-- a key of the resume room, and one of the slot table
abbrev pub IsRoomKey : Option Key → Type 0
IsRoomKey None = ⊥
IsRoomKey (Some Null) = ⊤
IsRoomKey (Some (Number body)) = ⊥
IsRoomKey (Some (Page page writable)) = ⊥
IsRoomKey (Some (Node node)) = ⊥
IsRoomKey (Some (Segment node height)) = ⊥
IsRoomKey (Some (Start root byte)) = ⊥
IsRoomKey (Some (Resume root count)) = ⊤
IsRoomKey (Some (Domain root)) = ⊥
IsRoomKey (Some (Meter slot)) = ⊥
IsRoomKey (Some (Service code)) = ⊥

abbrev pub IsSlotKey : Option Key → Type 0
IsSlotKey None = ⊥
IsSlotKey (Some Null) = ⊤
IsSlotKey (Some (Number body)) = ⊥
IsSlotKey (Some (Page page writable)) = ⊥
IsSlotKey (Some (Node node)) = ⊥
IsSlotKey (Some (Segment node height)) = ⊥
IsSlotKey (Some (Start root byte)) = ⊥
IsSlotKey (Some (Resume root count)) = ⊥
IsSlotKey (Some (Domain root)) = ⊤
IsSlotKey (Some (Meter slot)) = ⊥
IsSlotKey (Some (Service code)) = ⊥

-- the key of a slot in the resume room, and in the slot table
abbrev pub room_key : List (Option Key) → ℕ → Option Key
room_key keys slot = key_in keys 7 slot

abbrev pub slot_key : List (Option Key) → ℕ → Option Key
slot_key keys slot = key_in keys 11 slot

-- What nodes 0 to 14 hold between turns: each service is available, and the keys of the room and of the slot table are of
-- their kind or Null.
pub record FixedNodes (keys : List (Option Key)) : Type 0 where
  pub null_node : (place : ℕ) → place < 16 → key_in keys 0 place ≡ Some Null
  pub services : (service : ℕ) → 1 ≤ service → service ≤ 6 → (calls : ℕ) × IsServiceRoot keys service 0 calls
  pub room : (slot : ℕ) → slot < 64 → IsRoomKey (room_key keys slot)
  pub slots : (slot : ℕ) → slot < 64 → IsSlotKey (slot_key keys slot)

-- What they hold before there is a process: no service was called, no slot is used, and nobody waits.
pub record FreshNodes (keys : List (Option Key)) : Type 0 where
  pub null_node : (place : ℕ) → place < 16 → key_in keys 0 place ≡ Some Null
  pub services : (service : ℕ) → 1 ≤ service → service ≤ 6 → IsServiceRoot keys service 0 0
  pub room : (slot : ℕ) → slot < 64 → room_key keys slot ≡ Some Null
  pub slots : (slot : ℕ) → slot < 64 → slot_key keys slot ≡ Some Null

-- the console, and the root of an empty tree of files, which is its own parent and counts as named once
abbrev pub console_inode : Inode
console_inode = record { kind = Console; length = 0; entries = 0; opens = 0; root = 0; parent = 0; start = 0 }

abbrev pub empty_root : Inode
empty_root = record { kind = Dir; length = 0; entries = 1; opens = 0; root = 0; parent = 1; start = 0 }

-- The tables of files before there is a file: inode 0 is the console, inode 1 the empty root, and all else is free.
pub record FreshFiles (inodes : List (Row Inode)) (descriptions : List (Row Description)) : Type 0 where
  pub console : slice_index_or inodes 0 Unspelled ≡ Used console_inode
  pub root : slice_index_or inodes 1 Unspelled ≡ Used empty_root
  pub free_inodes : (number : ℕ) → 2 ≤ number → number < 1024 → slice_index_or inodes number Unspelled ≡ Free
  pub free_descriptions : (number : ℕ) → number < 2048 → slice_index_or descriptions number Unspelled ≡ Free
