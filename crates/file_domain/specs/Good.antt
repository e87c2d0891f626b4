-- A file in the tables, and its bytes.
use Rattle.std.specs.Prelude.{◌≡◌, ℕ, Option, List}
use Rattle.kernel_tables.specs.declared.inode.Inode.{Inode}
use Rattle.kernel_tables.specs.declared.inode.InodeKind.TheVariants as kind
use Rattle.kernel_tables.specs.declared.row.Row.TheVariants.{Used}
use Rattle.kernel_tables.specs.Kernel.{Kernel, inode_at}
use Rattle.unix_model.specs.Files.{file_bytes}
use Rattle.unix_model.specs.Tables.{at}
use Rattle.kernel_machine.specs.Machine.{machine_of}
use Rattle.kernel_machine.specs.View.{view}

-- a file is there at a number
pub record IsFileAt (kernel : Kernel) (number : ℕ) (inode : Inode) : Type 0 where
  pub there : inode_at kernel number ≡ Used inode
  pub kind : inode.kind ≡ kind.File

-- the bytes of the file of a number, in the flat state
abbrev pub bytes_at : Kernel → ℕ → Option (List ℕ)
bytes_at kernel number = file_bytes (at (view (machine_of kernel)).files.inodes number)
