-- The inodes that the table of the plain machine stands for.
use Rattle.std.specs.Prelude.{ℕ, Option, None, option_map, slice_index_or}
use Rattle.unix_model.specs.Files as model
use Rattle.flat_files.specs.declared.inodes.Inodes.{Inodes}
use Rattle.flat_files.specs.InodeView.{inode_of}

unfoldable pub inodes_of : Inodes → ℕ → Option model.Inode
inodes_of inodes = λ n. option_map inode_of (slice_index_or inodes.items.items n None)
