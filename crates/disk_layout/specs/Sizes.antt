-- How a disk is laid out: a label, two areas for what is saved, and the home blocks of a machine. An area has a header of
-- one block, a directory of block numbers, and as many blocks of contents as the machine has blocks. All is in bytes.
use Rattle.std.specs.Prelude.{ℕ, ◌+◌, ◌*◌, ◌/◌, ◌%◌, ◌==◌, nat_le, Bool, ◌&&◌, List}
use Rattle.std.specs.Int.{from_le_bytes, w32, w64}
use Rattle.kn_base.specs.Rows.{part_at}
use Rattle.kernel_tables.specs.Kernel.{first_page, node_count}

-- how many blocks a machine with so many bank pages has: its pages, and a block for each sixteen nodes
unfoldable pub blocks_for : ℕ → ℕ
blocks_for pages = first_page pages + pages + node_count pages / 16

-- the numbers of bank pages, and of turns that each process gets in a round, that a machine may have
abbrev pub pages_right : ℕ → Bool
pages_right pages = nat_le 64 pages && (nat_le pages 16384 && (pages % 64 == 0))

abbrev pub quantum_right : ℕ → Bool
quantum_right quantum = nat_le 1 quantum && nat_le quantum 10000

-- Where the contents begin in an area, behind its header and directory, and how long an area is.
unfoldable pub contents_from : ℕ → ℕ
contents_from blocks = 4096 + 4096 * ((4 * blocks + 4095) / 4096)

unfoldable pub area_size : ℕ → ℕ
area_size blocks = contents_from blocks + 4096 * blocks

-- where an area begins, where the home blocks do, and how long the disk is
abbrev pub area_start : ℕ → ℕ → ℕ
area_start blocks area = 4096 + area * area_size blocks

abbrev pub home_start : ℕ → ℕ
home_start blocks = 4096 + 2 * area_size blocks

abbrev pub disk_size : ℕ → ℕ
disk_size blocks = home_start blocks + 4096 * blocks

-- a number of four bytes and one of eight in a list of bytes, the lowest first
abbrev pub word : List ℕ → ℕ → ℕ
word bytes at = from_le_bytes w32 (part_at bytes at 4)

abbrev pub long : List ℕ → ℕ → ℕ
long bytes at = from_le_bytes w64 (part_at bytes at 8)

-- the bytes of the area that begins at a place
abbrev pub area_in : ℕ → ℕ → List ℕ → List ℕ
area_in blocks start image = part_at image start (area_size blocks)

-- Of an area: entry i of its directory, and content block i, where the contents begin at `from`.
abbrev pub entry : List ℕ → ℕ → ℕ
entry area i = word area (4096 + 4 * i)

abbrev pub content : ℕ → List ℕ → ℕ → List ℕ
content from area i = part_at area (from + 4096 * i) 4096

-- a home block
abbrev pub home_block : ℕ → List ℕ → ℕ → List ℕ
home_block blocks image block = part_at image (home_start blocks + 4096 * block) 4096
