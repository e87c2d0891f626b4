-- Files get another length: what the steps of a cut do, and the line of ftruncate.
use Rattle.std.specs.Prelude.{◌≡◌, ℕ, ◌-◌, ◌/◌, ◌%◌, ◌<◌, ◌==◌, if◌then◌else◌, nat_lt, List, Some, None, Result, Ok, Err, option_map}
use Rattle.kernel_tables.specs.declared.inode.Inode.{Inode}
use Rattle.kernel_tables.specs.Kernel.{Kernel}
use Rattle.unix_model.specs.declared.calls.Errno.{Errno}
use Rattle.unix_model.specs.declared.calls.Errno.TheVariants.{Efbig, Enospc}
use Rattle.unix_model.specs.FileCalls.{resized}
use Rattle.unix_model.specs.Limits.{most_file_bytes}
use Rattle.unix_model.specs.Memory.{Memory}
use Rattle.unix_model.specs.Refusals.{◌>>◌, refuse◌when◌, refuse◌where_not◌}
use Rattle.unix_model.specs.Room.{has_room}
use Rattle.unix_model.specs.State.{Unix}
use Rattle.unix_model.specs.Tables.{at, with_at}
use Rattle.forest.specs.Walks.{Mapping, map_of}
use Rattle.kernel_forest.specs.Trees.{forest_of}
use Rattle.kernel_machine.specs.Contents.{file_in}
use Rattle.kernel_machine.specs.Machine.{machine_of}
use Rattle.kernel_machine.specs.View.{view, stored}
use Rattle.file_trees.specs.Cuts.{cleared}
use Rattle.file_trees.specs.Trees.{tree_memory}
use Rattle.file_domain.specs.Effects.{with_file, ChangesFile, LeavesFiles, Resizes}
use Rattle.file_trees.specs.Good.{FilesGood}
use Rattle.file_domain.specs.Good.{IsFileAt}

-- ---- the steps of a cut

-- a tree maps a page below a page number, or none
abbrev pub MapsBelow : Kernel → ℕ → ℕ → Type 0
MapsBelow kernel tree end = (page : ℕ) × (page < end) × (mapping : Mapping) × (map_of (forest_of kernel).keys tree page ≡ Some mapping)

abbrev pub MapsNoneBelow : Kernel → ℕ → ℕ → Type 0
MapsNoneBelow kernel tree end = (page : ℕ) → page < end → map_of (forest_of kernel).keys tree page ≡ None

-- The tree of a file has another memory, and its row is as before: so are its length, and what is promised for it.
pub record ChangesTree (old new : Kernel) (number : ℕ) (inode : Inode) (memory : Memory) : Type 0 where
  pub changes : ChangesFile old new number inode inode
  pub here : tree_memory new inode.root ≡ memory
  pub seen : view (machine_of new) ≡ with_file (view (machine_of old)) number (file_in memory inode.length)
  pub promised_same : new.machine.promised ≡ old.machine.promised
  pub good : FilesGood new
  pub file : IsFileAt new number inode

-- the memory in which the rest of the page where a length ends is zero, if the page is there
unfoldable pub without_rest : Memory → ℕ → Memory
without_rest memory size =
    if size % 4096 == 0 then memory else
    with_at memory (size / 4096) (option_map (cleared (size % 4096) (4096 - size % 4096)) (at memory (size / 4096)))

-- A file got a shorter length, and may have lost its tree.
pub record Shortens (old new : Kernel) (number : ℕ) (inode : Inode) (size : ℕ) : Type 0 where
  pub now : Inode
  pub length_now : now.length ≡ size
  pub resizes : Resizes old new number inode now

-- ---- the line

-- The state with a file of another length, or why there is none, as the line of ftruncate has it without a descriptor.
abbrev pub with_length : Unix → ℕ → List ℕ → ℕ → Result Unix Errno
with_length unix number bytes size = do
  refuse Efbig when nat_lt most_file_bytes size
  refuse Enospc where_not has_room (with_file unix number (resized bytes size))
  Ok (with_file unix number (resized bytes size))

-- The flat state is the one that a line says; or the line is refused, and nothing has changed.
abbrev pub LeavesBy : Result Unix Errno → Kernel → Kernel → ℕ → Inode → Result (Unit {0}) Errno → Type 0
LeavesBy line old new number inode (Ok done) = (line ≡ Ok (view (machine_of new))) × LeavesFiles old new number inode
LeavesBy line old new number inode (Err errno) = (line ≡ Err errno) × (new ≡ old)

-- A file got a length as the definitions say.
abbrev pub Truncates : Kernel → Kernel → ℕ → Inode → ℕ → Result (Unit {0}) Errno → Type 0
Truncates old new number inode size = LeavesBy (with_length (view (machine_of old)) number (stored (machine_of old) inode) size) old new number inode
