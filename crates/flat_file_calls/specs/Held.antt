-- What an inode holds.
use Rattle.std.specs.Prelude.{ℕ, List, [], Option, Some, None}
use Rattle.unix_model.specs.Files.{Inode, File, Directory, Pipe, Console}

-- the bytes of a file, and none of anything else
abbrev pub stored_bytes : Option Inode → List ℕ
stored_bytes (Some (File bytes)) = bytes
stored_bytes (Some (Directory parent places)) = []
stored_bytes (Some (Pipe bytes)) = []
stored_bytes (Some Console) = []
stored_bytes None = []

-- the bytes in a pipe, and none of anything else
abbrev pub piped_bytes : Option Inode → List ℕ
piped_bytes (Some (Pipe bytes)) = bytes
piped_bytes (Some (File bytes)) = []
piped_bytes (Some (Directory parent places)) = []
piped_bytes (Some Console) = []
piped_bytes None = []
