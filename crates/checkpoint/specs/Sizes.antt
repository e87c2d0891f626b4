-- What a store says of its own sizes.
use Rattle.std.specs.Prelude.{◌≡◌, ◌≤◌, ◌+◌, ◌%◌, ℕ, [], length, slice_index_or}
use Rattle.obj_store.specs.Ram.{Ram}
use Rattle.kernel_tables.specs.Kernel.{first_page}
use Rattle.disk_layout.specs.Sizes.{word, blocks_for}

-- In its page 1 a store says how many bank pages it has, and how many turns each process gets in a round.
abbrev pub pages_in : Ram → ℕ
pages_in ram = word (slice_index_or ram.blocks 1 []) 0

abbrev pub quantum_in : Ram → ℕ
quantum_in ram = word (slice_index_or ram.blocks 1 []) 4

-- both are in range, and the store has the sizes of a machine with so many bank pages
pub record HasSizes (ram : Ram) : Type 0 where
  pub least_pages : 64 ≤ pages_in ram
  pub most_pages : pages_in ram ≤ 16384
  pub multiple : pages_in ram % 64 ≡ 0
  pub least_quantum : 1 ≤ quantum_in ram
  pub most_quantum : quantum_in ram ≤ 10000
  pub all_pages : ram.pages ≡ first_page (pages_in ram) + pages_in ram
  pub all_blocks : length ram.blocks ≡ blocks_for (pages_in ram)
