-- Where the line of rename ends, at a name that isn't there yet.
use Rattle.std.proofs.Common.{◌≡◌, ℕ, true, false, None, Err, refl}
use Rattle.unix_model.specs.declared.calls.Errno.TheVariants.{Enospc}
use Rattle.unix_model.specs.Effect.{replies}
use Rattle.unix_model.specs.Files.{is_full}
use Rattle.unix_model.specs.NameCalls.{moved, with_link}
use Rattle.unix_model.specs.Paths.{Spot}
use Rattle.unix_model.specs.Process.{Process}
use Rattle.unix_model.specs.Room.{has_room}
use Rattle.unix_model.specs.State.{Unix, with_files}
use Rattle.flat_name_calls.specs.Renaming.{rename_end}

module _ (unix : Unix) (slot : ℕ) (process : Process) (from to : Spot) (inode : ℕ) (place : is_full unix.files to.directory ≡ false) where
  pub rename-crowded : has_room (with_link unix to inode) ≡ false → rename_end unix slot process from to inode None ≡ Err Enospc
  rename-crowded crowded = rw (place, crowded) refl

  pub rename-done : has_room (with_link unix to inode) ≡ true
      → rename_end unix slot process from to inode None ≡ replies (with_files unix (moved (with_link unix to inode).files from to inode)) slot process 0
  rename-done room = rw (place, room) refl
