-- The machine that the bytes of a disk hold.
use Rattle.std.specs.Prelude.{⊤, ◌≤◌, ◌≡◌, ℕ, zero, suc, ◌+◌, ◌*◌, ◌%◌, ◌^◌, ◌==◌, nat_le, nat_lt, max, Bool, true, ◌&&◌, if◌then◌else◌, Option, Some, None, List, codes, [], length, map, slice_index, slice_set}
use Rattle.std.specs.List.{range_with_len}
use Rattle.std.specs.Str.{bytes_eq}
use Rattle.kn_base.specs.Rows.{part_at}
use Rattle.disk_layout.specs.declared.label.Label.{Label}
use Rattle.disk_layout.specs.declared.label.Label.TheVariants.{Absent, Wrong, Names}
use Rattle.disk_layout.specs.Sizes.{blocks_for, pages_right, quantum_right, contents_from, area_start, home_start, disk_size, word, long, area_in, entry, content}

-- no machine, a damaged one, or a machine: its generation and its blocks
pub data Saved : Type 0 where
  NoMachine : Saved
  Damaged : Saved
  Machine : ℕ → List (List ℕ) → Saved

-- A machine is present where a disk of so many bytes has a whole label, and its gate is open: its first byte is 1.
abbrev pub gate_open : ℕ → List ℕ → Bool
gate_open size label = nat_le 4096 size && (slice_index label 0 == 1)

-- the label has the name KEYNIXD and version 1, its numbers are in range, and the disk has the length that they give
abbrev pub label_right : ℕ → List ℕ → Bool
label_right size label =
    bytes_eq (part_at label 1 7) (codes "KEYNIXD")
    && ((word label 8 == 1)
    && (pages_right (word label 12) && (quantum_right (word label 16) && (size == disk_size (blocks_for (word label 12))))))

unfoldable pub label_of : ℕ → List ℕ → Label
label_of size label =
    if gate_open size label then (if label_right size label then Names (word label 12) (word label 16) else Wrong) else Absent

abbrev pub label_in : List ℕ → Label
label_in image = label_of (length image) (part_at image 0 4096)

unfoldable pub is_present : List ℕ → Bool
is_present image = gate_open (length image) (part_at image 0 4096)

-- the generation in the header of an area whose gate is open
unfoldable pub gate_of : List ℕ → Option ℕ
gate_of area = if slice_index area 0 == 1 then Some (long area 8) else None

-- a generation that may stand in the area of this number
abbrev pub may_stand : ℕ → ℕ → Bool
may_stand area generation = nat_lt 0 generation && (nat_lt generation (2 ^ 63) && (generation % 2 == area))

-- The generation that is taken: the greater one of the open areas, and 0 where none is open; none where an open area has
-- a generation that may not stand in it.
unfoldable pub chosen : Option ℕ → Option ℕ → Option ℕ
chosen None None = Some 0
chosen (Some first) None = if may_stand 0 first then Some first else None
chosen None (Some second) = if may_stand 1 second then Some second else None
chosen (Some first) (Some second) = if may_stand 0 first && may_stand 1 second then Some (max first second) else None

-- what the gate of an area says
abbrev pub gate_at : ℕ → ℕ → List ℕ → Option ℕ
gate_at blocks area image = gate_of (area_in blocks (area_start blocks area) image)

abbrev pub generation_in : ℕ → List ℕ → Option ℕ
generation_in blocks image = chosen (gate_at blocks 0 image) (gate_at blocks 1 image)

-- the area of a generation
abbrev pub area_at : ℕ → ℕ → List ℕ → List ℕ
area_at blocks generation image = area_in blocks (area_start blocks (generation % 2)) image

-- how many entries the area of a generation has; generation 0 has none
abbrev pub entries_at : ℕ → ℕ → List ℕ → ℕ
entries_at blocks generation image = if generation == 0 then 0 else word (area_at blocks generation image) 16

-- the least number that entry n may be
unfoldable pub least : List ℕ → ℕ → ℕ
least area zero = 0
least area (suc n) = entry area n + 1

-- the first n entries ascend, and none reaches the number of blocks
unfoldable pub ascends : ℕ → List ℕ → ℕ → Bool
ascends blocks area zero = true
ascends blocks area (suc n) = ascends blocks area n && (nat_le (least area n) (entry area n) && nat_lt (entry area n) blocks)

-- blocks over which the first n content blocks of an area are laid, each at the number that its entry says
unfoldable pub overlaid : ℕ → List ℕ → ℕ → List (List ℕ) → List (List ℕ)
overlaid from area zero home = home
overlaid from area (suc n) home = slice_set (overlaid from area n home) (entry area n) (content from area n)

-- the home blocks
unfoldable pub blocks_in : ℕ → List ℕ → List (List ℕ)
blocks_in blocks bytes = map (λ block. part_at bytes (4096 * block) 4096) (range_with_len 0 blocks)

abbrev pub home_of : ℕ → List ℕ → List (List ℕ)
home_of blocks image = blocks_in blocks (part_at image (home_start blocks) (4096 * blocks))

-- a generation with n entries in an area over home blocks: damaged where the entries aren't right
unfoldable pub machine_by : ℕ → ℕ → ℕ → List ℕ → List (List ℕ) → Saved
machine_by blocks generation n area home =
    if nat_le n blocks && ascends blocks area n then Machine generation (overlaid (contents_from blocks) area n home) else Damaged

abbrev pub machine_of : ℕ → List ℕ → Option ℕ → Saved
machine_of blocks image None = Damaged
machine_of blocks image (Some generation) =
    machine_by blocks generation (entries_at blocks generation image) (area_at blocks generation image) (home_of blocks image)

unfoldable pub machine_in : ℕ → List ℕ → Saved
machine_in blocks image = machine_of blocks image (generation_in blocks image)

abbrev pub raw_by : Label → List ℕ → Saved
raw_by Absent image = NoMachine
raw_by Wrong image = Damaged
raw_by (Names pages quantum) image = machine_in (blocks_for pages) image

-- What a disk holds, by its bytes alone: whether the blocks are those of a good machine isn't asked.
unfoldable pub raw : List ℕ → Saved
raw image = raw_by (label_in image) image

-- What is opened of it: a machine of generation 2^62 or more counts as damaged, so that each one that is opened can be
-- saved for as long as it runs.
unfoldable pub opened : Saved → Saved
opened NoMachine = NoMachine
opened Damaged = Damaged
opened (Machine generation blocks) = if nat_lt generation (2 ^ 62) then Machine generation blocks else Damaged

-- the generation and the blocks of a machine
abbrev pub generation_of : Saved → Option ℕ
generation_of NoMachine = None
generation_of Damaged = None
generation_of (Machine generation blocks) = Some generation

abbrev pub blocks_of : Saved → List (List ℕ)
blocks_of NoMachine = []
blocks_of Damaged = []
blocks_of (Machine generation blocks) = blocks

-- the numbers of bank pages and of blocks that a label gives
abbrev pub pages_named : Label → Option ℕ
pages_named Absent = None
pages_named Wrong = None
pages_named (Names pages quantum) = Some pages

abbrev pub blocks_named : Label → Option ℕ
blocks_named Absent = None
blocks_named Wrong = None
blocks_named (Names pages quantum) = Some (blocks_for pages)

-- the same label and the same machine
pub record SameMachine (old new : List ℕ) : Type 0 where
  pub label : label_in new ≡ label_in old
  pub machine : raw new ≡ raw old

-- the numbers that a label gives are in range
abbrev pub NamesRight : Label → Type 0
NamesRight Absent = ⊤
NamesRight Wrong = ⊤
NamesRight (Names pages quantum) = (64 ≤ pages) × (pages ≤ 16384) × (pages % 64 ≡ 0) × (1 ≤ quantum) × (quantum ≤ 10000)
