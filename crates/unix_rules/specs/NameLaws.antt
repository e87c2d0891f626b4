-- A new name that link makes goes again by unlink.
use Rattle.std.specs.Prelude.{◌≡◌, ℕ, List, Ok}
use Rattle.unix_model.specs.Effect.{Goes}
use Rattle.unix_model.specs.Files.{inode_named, places_of}
use Rattle.unix_model.specs.NameCalls.{link_line, unlink_line}
use Rattle.unix_model.specs.Process.{Process}
use Rattle.unix_model.specs.State.{Unix}
use Rattle.unix_model.specs.Tables.{at}
use Rattle.unix_rules.specs.FileRules.{AreFiles}

-- After a link and an unlink of its new path each name of each directory has the inode that it had.
abbrev pub LinkThenUnlink : Type 0
LinkThenUnlink =
    (unix linked last : Unix) (slot other : ℕ) (process second : Process) (old new : List ℕ)
    → AreFiles unix.files → link_line unix slot process old new ≡ Ok (Goes linked) → unlink_line linked other second new ≡ Ok (Goes last)
    → (directory : ℕ) (name : List ℕ) → inode_named (places_of (at last.files.inodes directory)) name ≡ inode_named (places_of (at unix.files.inodes directory)) name
