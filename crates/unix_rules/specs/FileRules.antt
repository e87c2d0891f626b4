-- Rules of inodes, names and descriptions that every turn keeps.
use Rattle.std.specs.Prelude.{◌≡◌, ◌⊎◌, ℕ, true, List, Option, Some, Ok}
use Rattle.unix_model.specs.Calls.{Calls}
use Rattle.unix_model.specs.Files.{Entry, Files, Inode, is_directory, root_inode}
use Rattle.unix_model.specs.Paths.{Spot, walked}
use Rattle.unix_model.specs.Rules.{AreDescriptions, AreInodes, AreKept, AreNames, AreSent, IsTree, entry_at, is_named_kind}
use Rattle.unix_model.specs.State.{Unix}
use Rattle.unix_model.specs.Tables.{at}
use Rattle.unix_model.specs.Turn.{turned}
use Rattle.unix_rules.specs.ProcessRules.{Each, HasBody}

-- an entry of this inode
pub record HasEntry (inodes : ℕ → Option Inode) (number : ℕ) : Type 0 where
  pub directory : ℕ
  pub place : ℕ
  pub entry : Entry
  pub there : entry_at inodes directory place ≡ Some entry
  pub names : entry.inode ≡ number

-- the root, or an inode with an entry
abbrev pub IsTied : (ℕ → Option Inode) → ℕ → Type 0
IsTied inodes number = (number ≡ root_inode) ⊎ HasEntry inodes number

-- where a walk stands: in a directory that is tied to the root, and what it finds there is a file or a directory that is tied
pub record Stands (inodes : ℕ → Option Inode) (spot : Spot) : Type 0 where
  pub in_directory : is_directory (at inodes spot.directory) ≡ true
  pub tied : IsTied inodes spot.directory
  pub kind : (number : ℕ) → spot.inode ≡ Some number → is_named_kind (at inodes number) ≡ true
  pub found_tied : (number : ℕ) → spot.inode ≡ Some number → IsTied inodes number

-- A walk that succeeds ends so.
abbrev pub WalksStand : Type 0
WalksStand = (files : Files) (path : List ℕ) (spot : Spot) → AreInodes files.inodes → IsTree files.inodes → walked files path ≡ Ok spot → Stands files.inodes spot

-- The rules of inodes, names and descriptions: one law, since each rests on the others.
pub record AreFiles (files : Files) : Type 0 where
  pub inodes : AreInodes files.inodes
  pub names : AreNames files.inodes
  pub tree : IsTree files.inodes
  pub kept : AreKept files
  pub descriptions : AreDescriptions files

-- Every turn keeps them.
abbrev pub FilesKept : Type 0
FilesKept =
    (calls : Calls) (unix : Unix) (slot : ℕ) (input : List ℕ) → AreSent calls unix → Each HasBody unix.processes → AreFiles unix.files → AreFiles (turned calls unix slot input).state.files
