-- The parts of the line of rename.
use Rattle.std.specs.Prelude.{ℕ, not, ◌&&◌, List, Option, is_none, if◌then◌else◌}
use Rattle.unix_model.specs.declared.calls.Errno.TheVariants.{Ebusy, Einval, Enotdir}
use Rattle.unix_model.specs.Effect.{Line, replies}
use Rattle.unix_model.specs.Files.{is_directory, is_within}
use Rattle.unix_model.specs.Limits.{inode_count}
use Rattle.unix_model.specs.NameCalls.{is_same, renamed}
use Rattle.unix_model.specs.Paths.{Spot, is_root, is_dots, is_slashed, walked}
use Rattle.unix_model.specs.Process.{Process}
use Rattle.unix_model.specs.Refusals.{◌>>=◌, ◌>>◌, refuse◌when◌}
use Rattle.unix_model.specs.State.{Unix, with_files}
use Rattle.unix_model.specs.Tables.{at}

-- the end of rename's line: the inode gets its new name, onto what stands there, if anything does
abbrev pub rename_end : Unix → ℕ → Process → (from to : Spot) → (inode : ℕ) → Option ℕ → Line
rename_end unix slot process from to inode other = do
  files ← renamed unix from to inode other
  replies (with_files unix files) slot process 0

-- what is left of it once the new name is known not to be the inode's already
abbrev pub rename_apart : Unix → ℕ → Process → (from to : Spot) → (inode : ℕ) → Line
rename_apart unix slot process from to inode = do
  refuse Einval when (is_directory (at unix.files.inodes inode) && is_within unix.files.inodes inode inode_count to.directory)
  rename_end unix slot process from to inode to.inode

-- what is left of it once the inode of the old name is known
abbrev pub rename_inode : Unix → ℕ → Process → (from : Spot) → (inode : ℕ) → (new : List ℕ) → Line
rename_inode unix slot process from inode new = do
  to ← walked unix.files new
  refuse Ebusy when is_root to
  refuse Einval when is_dots to
  refuse Enotdir when (is_slashed new && is_none to.inode && not (is_directory (at unix.files.inodes inode)))
  if is_same inode to.inode then replies unix slot process 0 else rename_apart unix slot process from to inode
