-- Where the line of open ends.
use Rattle.std.proofs.Common.{◌≡◌, ℕ, true, false, Option, Some, None, Ok, List, [], refl}
use Rattle.unix_model.specs.Effect.{replies}
use Rattle.unix_model.specs.Enter.{create_flag, has_flag}
use Rattle.unix_model.specs.Files.{File, free_description}
use Rattle.unix_model.specs.NameCalls.{made, open_line, opening, with_made, with_opened}
use Rattle.unix_model.specs.Paths.{Spot, is_slashed, walked}
use Rattle.unix_model.specs.Process.{Process, lowest_closed, with_descriptor}
use Rattle.unix_model.specs.State.{Unix}
use Rattle.flat_name_calls.specs.Opening.{open_spot}

-- the path is walked
pub open-walked : (unix : Unix) (slot : ℕ) (process : Process) (path : List ℕ) (flags lowest number : ℕ) (spot : Spot) (inode : Option ℕ)
    → lowest_closed process ≡ Some lowest → free_description unix.files.descriptions ≡ Some number → walked unix.files path ≡ Ok spot → spot.inode ≡ inode
    → open_line unix slot process path flags ≡ open_spot unix slot process path flags lowest number spot inode
open-walked unix slot process path flags lowest number spot inode closed free found is = rw (closed, free, found, is) refl

-- a new file is opened
pub open-new-done : (unix : Unix) (slot : ℕ) (process : Process) (path : List ℕ) (flags lowest number : ℕ) (spot : Spot) (inode : ℕ)
    → has_flag flags create_flag ≡ true → is_slashed path ≡ false → made unix spot (File []) ≡ Ok inode
    → open_spot unix slot process path flags lowest number spot None
    ≡ replies (with_opened (with_made unix spot inode (File [])) number (opening flags inode)) slot (with_descriptor process lowest number) lowest
open-new-done unix slot process path flags lowest number spot inode creates slashed there = rw (creates, slashed, there) refl
