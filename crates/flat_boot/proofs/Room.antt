-- Room for an inode, and for the first program.
use Rattle.std.proofs.Common.{◌≡◌, ◌≢◌, ℕ, ◌+◌, ◌-◌, ◌<◌, Option, Some, None, true, false, List, arith, sym, ap, ◌∙◌}
use Rattle.std.proofs.lemmas.Bool.Decides.{nat_tests}
use Rattle.std.specs.Prelude.{nat_le}
use Rattle.unix_model.specs.Boot.{init_arguments, started}
use Rattle.unix_model.specs.Elf.{LoadPlan}
use Rattle.unix_model.specs.Files.{Inode, Directory, Entry, inode_pages, is_directory, parent_of, places_of, with_entry}
use Rattle.unix_model.specs.Loading.{image}
use Rattle.unix_model.specs.Memory.{mapped_pages}
use Rattle.unix_model.specs.NameCalls.{with_made}
use Rattle.unix_model.specs.Paths.{Spot}
use Rattle.unix_model.specs.Room.{has_room, process_pages, promised}
use Rattle.unix_model.specs.State.{Unix}
use Rattle.unix_model.specs.Tables.{at}
use Rattle.unix_model.proofs.BootLaws.{promised-made}
use Rattle.unix_model.proofs.RoomLaws.{promised-started, mapped_pages-image}
use Rattle.flat_files.specs.FreeNumber.{IsFreeNumber}

-- a directory's number isn't free
apart : (inodes : ℕ → Option Inode) (directory number : ℕ) → is_directory (at inodes directory) ≡ true → at inodes number ≡ None → directory ≢ number
apart inodes directory number is free = λ same.
    let here : is_directory (at inodes number) ≡ true = ap (λ n. is_directory (at inodes n)) (sym same) ∙ is in
    let none : is_directory (at inodes number) ≡ false = ap is_directory free in
    cc

-- an inode of so many pages
pub room-made : (unix : Unix) (spot : Spot) (number : ℕ) (new : Inode) (directory after before : ℕ) → spot.directory < 1024
    → is_directory (at unix.files.inodes spot.directory) ≡ true → IsFreeNumber unix.files.inodes number
    → ((parent : ℕ) (entry : Entry) → directory ≡ inode_pages (Some (Directory parent (with_entry (places_of (at unix.files.inodes spot.directory)) entry))))
    → after ≡ promised unix + inode_pages (Some new) + directory
    → before ≡ unix.pages + inode_pages (at unix.files.inodes spot.directory)
    → nat_le after before ≡ has_room (with_made unix spot number new)
room-made unix spot number new directory after before inside is free pages a b =
    let entry : Entry = record { name = spot.name; inode = number } in
    grind (
      arith,
      nat_tests,
      promised-made unix spot number new inside free.below_limit (apart unix.files.inodes spot.directory number is free.free) free.free,
      pages (parent_of (at unix.files.inodes spot.directory)) entry,
      a,
      b,
    )

-- a program of so many pages
pub room-started : (unix : Unix) (file : List ℕ) (plan : LoadPlan) (after before : ℕ)
    → after ≡ promised unix + (mapped_pages (image file plan.loads init_arguments) + 1)
    → before ≡ unix.pages + process_pages (at unix.processes 0)
    → nat_le after before ≡ has_room (started unix file plan)
room-started unix file plan after before a b =
    grind (arith, nat_tests, promised-started unix file plan, mapped_pages-image file plan.loads init_arguments, a, b)

-- one of more pages than are left
pub started-crowded : (unix : Unix) (file : List ℕ) (plan : LoadPlan) (limit : ℕ)
    → limit ≡ unix.pages + process_pages (at unix.processes 0) - (promised unix + 1)
    → limit < mapped_pages (image file plan.loads init_arguments)
    → has_room (started unix file plan) ≡ false
started-crowded unix file plan limit left more =
    grind (arith, nat_tests, promised-started unix file plan, mapped_pages-image file plan.loads init_arguments, left, more)
