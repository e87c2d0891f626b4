-- New names: what they promise, and where the lines that make them end.
use Rattle.std.proofs.Common.{◌≡◌, ℕ, ◌+◌, ◌<◌, true, false, Option, Some, None, Ok, Err, List, [], arith, refl, ap, sym, ◌∙◌, inl, inr}
use Rattle.std.proofs.lemmas.Bool.Decides.{eqb_tells}
use Rattle.std.specs.Prelude.{is_some}
use Rattle.unix_model.specs.declared.calls.Errno.{Errno}
use Rattle.unix_model.specs.declared.calls.Errno.TheVariants.{Enospc}
use Rattle.unix_model.specs.Effect.{replies}
use Rattle.unix_model.specs.Files.{Entry, Inode, Directory, free_inode, inode_pages, is_directory, is_full, parent_of, places_of, with_entry, with_inode}
use Rattle.unix_model.specs.NameCalls.{link_line, made, mkdir_line, with_link, with_made}
use Rattle.unix_model.specs.Paths.{Spot, is_slashed, walked}
use Rattle.unix_model.specs.Process.{Process}
use Rattle.unix_model.specs.Room.{has_room, promised}
use Rattle.unix_model.specs.State.{Unix, with_files}
use Rattle.unix_model.specs.Tables.{at, with_at}
use Rattle.unix_model.proofs.RoomLaws.{promised-inode}
use Rattle.unix_model.proofs.TableLaws.{at-with_at, at-with_at-other}

-- a name for an inode that is there
pub promised-link : (unix : Unix) (to : Spot) (inode pages : ℕ) → to.directory < 1024
    → ((parent : ℕ) (entry : Entry) → pages ≡ inode_pages (Some (Directory parent (with_entry (places_of (at unix.files.inodes to.directory)) entry))))
    → promised (with_link unix to inode) + inode_pages (at unix.files.inodes to.directory) ≡ promised unix + pages
promised-link unix to inode pages inside pages_are =
    let entry : Entry = record { name = to.name; inode = inode } in
    let parent : ℕ = parent_of (at unix.files.inodes to.directory) in
    omega (arith, promised-inode unix (Some (Directory parent (with_entry (places_of (at unix.files.inodes to.directory)) entry))) unix.files.descriptions to.directory inside, pages_are parent entry)

-- what an inode without names and pages leaves of a directory
module _ (inodes : ℕ → Option Inode) (number directory : ℕ) (new : Inode) (free : at inodes number ≡ None) where
  same_places : places_of (Some new) ≡ [] → places_of (at (with_at inodes number (Some new)) directory) ≡ places_of (at inodes directory)
  same_places empty = elim (eqb_tells directory number) as (λ _. places_of (at (with_at inodes number (Some new)) directory) ≡ places_of (at inodes directory)) [
    | inl same ↦ ap (λ n. places_of (at (with_at inodes number (Some new)) n)) same.1 ∙ (ap places_of (at-with_at inodes number (Some new)) ∙ (empty ∙ (sym (ap places_of free) ∙ sym (ap (λ n. places_of (at inodes n)) same.1))))
    | inr apart ↦ ap places_of (at-with_at-other inodes number directory (Some new) apart.1)
  ]

  same_pages : inode_pages (Some new) ≡ 0 → inode_pages (at (with_at inodes number (Some new)) directory) ≡ inode_pages (at inodes directory)
  same_pages none = elim (eqb_tells directory number) as (λ _. inode_pages (at (with_at inodes number (Some new)) directory) ≡ inode_pages (at inodes directory)) [
    | inl same ↦ ap (λ n. inode_pages (at (with_at inodes number (Some new)) n)) same.1 ∙ (ap inode_pages (at-with_at inodes number (Some new)) ∙ (none ∙ (sym (ap inode_pages free) ∙ sym (ap (λ n. inode_pages (at inodes n)) same.1))))
    | inr apart ↦ ap inode_pages (at-with_at-other inodes number directory (Some new) apart.1)
  ]

-- a new inode with a name
pub promised-made : (unix : Unix) (spot : Spot) (number pages : ℕ) (new : Inode) → number < 1024 → spot.directory < 1024 → at unix.files.inodes number ≡ None
    → places_of (Some new) ≡ [] → inode_pages (Some new) ≡ 0
    → ((parent : ℕ) (entry : Entry) → pages ≡ inode_pages (Some (Directory parent (with_entry (places_of (at unix.files.inodes spot.directory)) entry))))
    → promised (with_made unix spot number new) + inode_pages (at unix.files.inodes spot.directory) ≡ promised unix + pages
promised-made unix spot number pages new inside place free empty none pages_are =
    let filled : Unix = with_files unix (with_inode unix.files number new) in
    let before : inode_pages (at unix.files.inodes number) ≡ 0 = ap inode_pages free in
    let more : (parent : ℕ) (entry : Entry) → pages ≡ inode_pages (Some (Directory parent (with_entry (places_of (at filled.files.inodes spot.directory)) entry))) =
    λ parent entry. pages_are parent entry ∙ ap (λ places. inode_pages (Some (Directory parent (with_entry places entry)))) (sym (same_places unix.files.inodes number spot.directory new free empty)) in
    omega (arith, promised-inode unix (Some new) unix.files.descriptions number inside, before, none, promised-link filled spot number pages place more, same_pages unix.files.inodes number spot.directory new free none)

-- ---- lines

pub made-crowded : (unix : Unix) (spot : Spot) (new : Inode) (number : ℕ) → free_inode unix.files.inodes ≡ Some number → is_full unix.files spot.directory ≡ false
    → has_room (with_made unix spot number new) ≡ false → made unix spot new ≡ Err Enospc
made-crowded unix spot new number free room crowded = rw (free, room, crowded) refl

pub made-done : (unix : Unix) (spot : Spot) (new : Inode) (number : ℕ) → free_inode unix.files.inodes ≡ Some number → is_full unix.files spot.directory ≡ false
    → has_room (with_made unix spot number new) ≡ true → made unix spot new ≡ Ok number
made-done unix spot new number free room fits = rw (free, room, fits) refl

pub mkdir-refused : (unix : Unix) (slot : ℕ) (process : Process) (path : List ℕ) (spot : Spot) (errno : Errno) → walked unix.files path ≡ Ok spot → is_some spot.inode ≡ false
    → made unix spot (Directory spot.directory []) ≡ Err errno → mkdir_line unix slot process path ≡ Err errno
mkdir-refused unix slot process path spot errno found absent refused = rw (found, absent, refused) refl

pub mkdir-done : (unix : Unix) (slot : ℕ) (process : Process) (path : List ℕ) (spot : Spot) (number : ℕ) → walked unix.files path ≡ Ok spot → is_some spot.inode ≡ false
    → made unix spot (Directory spot.directory []) ≡ Ok number
    → mkdir_line unix slot process path ≡ replies (with_made unix spot number (Directory spot.directory [])) slot process 0
mkdir-done unix slot process path spot number found absent there = rw (found, absent, there) refl

module _ (unix : Unix) (slot : ℕ) (process : Process) (old new : List ℕ) (from to : Spot) (inode : ℕ)
    (found : walked unix.files old ≡ Ok from) (named : from.inode ≡ Some inode) (plain : is_directory (at unix.files.inodes inode) ≡ false)
    (there : walked unix.files new ≡ Ok to) (absent : is_some to.inode ≡ false) (slashed : is_slashed new ≡ false) (place : is_full unix.files to.directory ≡ false) where
  pub link-crowded : has_room (with_link unix to inode) ≡ false → link_line unix slot process old new ≡ Err Enospc
  link-crowded crowded = rw (found, named, plain, there, absent, slashed, place, crowded) refl

  pub link-done : has_room (with_link unix to inode) ≡ true → link_line unix slot process old new ≡ replies (with_link unix to inode) slot process 0
  link-done room = rw (found, named, plain, there, absent, slashed, place, room) refl
