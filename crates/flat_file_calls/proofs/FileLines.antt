-- Where the lines of calls on files end, by their tests.
use Rattle.std.proofs.Common.{◌≡◌, ℕ, ◌+◌, ◌-◌, ◌*◌, ◌/◌, List, take, drop, length, true, false, Option, Some, Err, refl, ap, ap₂, sym}
use Rattle.std.specs.Prelude.{◌++◌, nat_le, nat_lt}
use Rattle.std.specs.Int.{to_le_bytes, w32}
use Rattle.unix_model.specs.declared.calls.Errno.TheVariants.{Efbig, Enospc, Enomem}
use Rattle.unix_model.specs.Effect.{replies, replies_with}
use Rattle.unix_model.specs.FileCalls.{fstat_line, ftruncate_line, getdents_line, kind_of, listed_bytes, looked_at, pipe_line, reads_from, with_descriptors, with_offset, with_pipe, with_resized, with_written, write_file, write_place}
use Rattle.unix_model.specs.Files.{Entry, File, Directory, free_description, free_inode, inode_length, links, next_description}
use Rattle.unix_model.specs.Limits.{most_file_bytes}
use Rattle.unix_model.specs.Process.{Process, lowest_closed, next_closed}
use Rattle.unix_model.specs.Room.{has_room}
use Rattle.unix_model.specs.State.{Unix, Opened, opened, opened_inode, with_files}

module _ (unix : Unix) (slot number : ℕ) (process : Process) (file : Opened) (there : opened unix process number ≡ Some file) where
  pub fstat-done : (address : ℕ) (bytes : List ℕ)
      → bytes ≡ to_le_bytes w32 (kind_of (opened_inode unix file)) ++ to_le_bytes w32 file.description.inode ++ to_le_bytes w32 (links unix.files.inodes file.description.inode) ++ to_le_bytes w32 (inode_length (opened_inode unix file))
      → fstat_line unix slot process number address ≡ replies_with unix slot process 0 address bytes
  fstat-done address bytes is = rw there (ap (λ (bytes : List ℕ). replies_with unix slot process 0 address bytes) (sym is))

  pub truncate-large : (size : ℕ) (bytes : List ℕ) → opened_inode unix file ≡ Some (File bytes) → nat_lt most_file_bytes size ≡ true
      → ftruncate_line unix slot process number size ≡ Err Efbig
  truncate-large size bytes found large = rw (there, found, large) refl

  pub truncate-crowded : (size : ℕ) (bytes : List ℕ) → opened_inode unix file ≡ Some (File bytes) → nat_lt most_file_bytes size ≡ false
      → has_room (with_resized unix file bytes size) ≡ false → ftruncate_line unix slot process number size ≡ Err Enospc
  truncate-crowded size bytes found small crowded = rw (there, found, small, crowded) refl

  pub truncate-done : (size : ℕ) (bytes : List ℕ) → opened_inode unix file ≡ Some (File bytes) → nat_lt most_file_bytes size ≡ false
      → has_room (with_resized unix file bytes size) ≡ true → ftruncate_line unix slot process number size ≡ replies (with_resized unix file bytes size) slot process 0
  truncate-done size bytes found small room = rw (there, found, small, room) refl

  pub getdents-done : (address count offset parent : ℕ) (bytes : List ℕ) (places : List (Option Entry)) → opened_inode unix file ≡ Some (Directory parent places)
      → bytes ≡ listed_bytes (count / 32) (drop (file.description.offset / 32) places)
      → offset ≡ file.description.offset + 32 * looked_at (count / 32) (drop (file.description.offset / 32) places)
      → getdents_line unix slot process number address count ≡ replies_with (with_files unix (with_offset unix.files file offset)) slot process (length bytes) address bytes
  getdents-done address count offset parent bytes places found bytes_are offset_is =
      rw (there, found) (ap₂ (λ (bytes : List ℕ) (offset : ℕ). replies_with (with_files unix (with_offset unix.files file offset)) slot process (length bytes) address bytes) (sym bytes_are) (sym offset_is))

-- a file is read
pub read-done : (unix : Unix) (slot : ℕ) (process : Process) (input : List ℕ) (file : Opened) (address count : ℕ) (bytes piece : List ℕ) → piece ≡ take count (drop file.description.offset bytes)
    → reads_from unix slot process input file address count (Some (File bytes))
    ≡ replies_with (with_files unix (with_offset unix.files file (file.description.offset + length piece))) slot process (length piece) address piece
read-done unix slot process input file address count bytes piece part = rw part refl

-- a file is written
pub write-large : (unix : Unix) (slot place : ℕ) (process : Process) (file : Opened) (bytes written : List ℕ)
    → place ≡ write_place file.description bytes → nat_le most_file_bytes place ≡ true → write_file unix slot process file bytes written ≡ Err Efbig
write-large unix slot place process file bytes written there large = rw (← there) (rw large refl)

pub write-crowded : (unix : Unix) (slot place : ℕ) (process : Process) (file : Opened) (bytes written part : List ℕ)
    → place ≡ write_place file.description bytes → nat_le most_file_bytes place ≡ false → part ≡ take (most_file_bytes - place) written
    → has_room (with_written unix file bytes place part) ≡ false → write_file unix slot process file bytes written ≡ Err Enospc
write-crowded unix slot place process file bytes written part there below taken crowded =
    rw (← there) (rw below (rw (← taken) (rw crowded refl)))

pub write-done : (unix : Unix) (slot place : ℕ) (process : Process) (file : Opened) (bytes written part : List ℕ)
    → place ≡ write_place file.description bytes → nat_le most_file_bytes place ≡ false → part ≡ take (most_file_bytes - place) written
    → has_room (with_written unix file bytes place part) ≡ true
    → write_file unix slot process file bytes written ≡ replies (with_written unix file bytes place part) slot process (length part)
write-done unix slot place process file bytes written part there below taken room =
    rw (← there) (rw below (rw (← taken) (rw room refl)))

-- a pipe
module _ (unix : Unix) (slot : ℕ) (process : Process) (first second reader writer inode address : ℕ)
    (first_is : lowest_closed process ≡ Some first) (second_is : next_closed process first ≡ Some second) (reader_is : free_description unix.files.descriptions ≡ Some reader)
    (writer_is : next_description unix.files.descriptions reader ≡ Some writer) (inode_is : free_inode unix.files.inodes ≡ Some inode) where
  pub pipe-crowded : has_room (with_pipe unix inode reader writer) ≡ false → pipe_line unix slot process address ≡ Err Enomem
  pipe-crowded crowded = rw (first_is, second_is, reader_is, writer_is, inode_is, crowded) refl

  pub pipe-done : has_room (with_pipe unix inode reader writer) ≡ true
      → pipe_line unix slot process address
      ≡ replies_with (with_pipe unix inode reader writer) slot (with_descriptors process first reader second writer) 0 address (to_le_bytes w32 first ++ to_le_bytes w32 second)
  pipe-done room = rw (first_is, second_is, reader_is, writer_is, inode_is, room) refl
