-- The calls on open files at their server: a line for each, with its arguments. Their descriptors are open: the keeper
-- has tested it, and a descriptor is closed by its own process alone. So the refusal EBADF never comes here.
use Rattle.std.specs.Prelude.{ℕ, zero, suc, ◌+◌, ◌-◌, ◌*◌, ◌/◌, ◌%◌, ◌^◌, Bool, true, false, not, ◌&&◌, List, [], ◌∷◌, ◌++◌, take, drop, replicate, length, Option, Some, None, Ok, Err, ◌==◌, nat_lt, nat_le, if◌then◌else◌}
use Rattle.std.specs.Int.{to_le_bytes, w32}
use Rattle.unix_model.specs.declared.calls.Errno.TheVariants.{Ebadf, Efbig, Einval, Eisdir, Emfile, Enfile, Enomem, Enospc, Enotdir, Eoverflow, Epipe, Espipe}
use Rattle.unix_model.specs.Effect.{Line, Waits, Takes, Puts, replies, replies_with}
use Rattle.unix_model.specs.Files.{Files, Inode, File, Directory, Pipe, Console, Entry, Description, inode_length, file_bytes, is_directory, places_of, links, free_inode, with_inode, free_description, next_description, with_description, has_reader, has_writer}
use Rattle.unix_model.specs.Limits.{most_file_bytes, most_name_bytes, offset_end, pipe_bytes, place_bytes}
use Rattle.unix_model.specs.Numbers.{is_negative}
use Rattle.unix_model.specs.Process.{Process, answered, answered_with, descriptor, lowest_closed, next_closed, with_descriptor, without_descriptor}
use Rattle.unix_model.specs.Refusals.{◌>>=◌, ◌>>◌, refuse◌when◌, refuse◌where_not◌, refuse◌unless◌}
use Rattle.unix_model.specs.Room.{has_room}
use Rattle.unix_model.specs.State.{Unix, Opened, opened, opened_inode, with_phase, with_files, with_descriptor_closed}

-- ---- words of the lines

-- the files with another offset of a description
abbrev pub with_offset : Files → Opened → ℕ → Files
with_offset files file offset = with_description files file.number (record file.description { offset = offset })

-- the files with other contents of the inode that is open
abbrev pub with_contents : Files → Opened → Inode → Files
with_contents files file contents = with_inode files file.description.inode contents

-- ---- close, dup, dup2 and pipe

-- close(descriptor) (POSIX.1)
abbrev pub close_line : Unix → ℕ → Process → (number : ℕ) → Line
close_line unix slot process number =
    replies (with_descriptor_closed unix slot process number (descriptor process number)) slot (without_descriptor process number) 0

-- dup(descriptor) (POSIX.1)
abbrev pub dup_line : Unix → ℕ → Process → (number : ℕ) → Line
dup_line unix slot process number = do
  file ← refuse Ebadf unless opened unix process number
  lowest ← refuse Emfile unless lowest_closed process
  replies unix slot (with_descriptor process lowest file.number) lowest

-- dup2(descriptor, to) (POSIX.1): the second descriptor is closed first, unless it is the first
abbrev pub dup2_line : Unix → ℕ → Process → (number to : ℕ) → Line
dup2_line unix slot process number to = do
  file ← refuse Ebadf unless opened unix process number
  if number == to then replies unix slot process to else
      replies (with_descriptor_closed unix slot process to (descriptor process to)) slot (with_descriptor process to file.number) to

-- an end of a pipe
abbrev pub pipe_end : ℕ → Bool → Description
pipe_end number writes = record { inode = number; readable = not writes; writable = writes; append = false; offset = 0 }

-- the state with a new pipe and descriptions of its two ends
abbrev pub with_pipe : Unix → (inode reader writer : ℕ) → Unix
with_pipe unix inode reader writer =
    let files = with_inode unix.files inode (Pipe []) in
    with_files unix (with_description (with_description files reader (pipe_end inode false)) writer (pipe_end inode true))

-- the process with two descriptors more
abbrev pub with_descriptors : Process → (first reader second writer : ℕ) → Process
with_descriptors process first reader second writer = with_descriptor (with_descriptor process first reader) second writer

-- pipe(address) (POSIX.1): two descriptors, to read and to write. Descriptions are there where two descriptors are closed,
-- so ENFILE comes for want of an inode alone
abbrev pub pipe_line : Unix → ℕ → Process → (address : ℕ) → Line
pipe_line unix slot process address = do
  first ← refuse Emfile unless lowest_closed process
  second ← refuse Emfile unless next_closed process first
  reader ← refuse Enfile unless free_description unix.files.descriptions
  writer ← refuse Enfile unless next_description unix.files.descriptions reader
  inode ← refuse Enfile unless free_inode unix.files.inodes
  refuse Enomem where_not has_room (with_pipe unix inode reader writer)
  replies_with (with_pipe unix inode reader writer) slot (with_descriptors process first reader second writer) 0
      address (to_le_bytes w32 first ++ to_le_bytes w32 second)

-- ---- read

-- at most so many bytes of the console's input, up to and with the first line feed; and what is left
abbrev pub line_taken : ℕ → List ℕ → List ℕ
line_taken zero input = []
line_taken (suc n) [] = []
line_taken (suc n) (byte ∷ input) = byte ∷ (if byte == 10 then [] else line_taken n input)

abbrev pub line_left : ℕ → List ℕ → List ℕ
line_left zero input = input
line_left (suc n) [] = []
line_left (suc n) (byte ∷ input) = if byte == 10 then input else line_left n input

-- by what is read: a file from the offset on; a pipe's first bytes, and an empty one is waited for while it has a writer;
-- a line of the console
abbrev pub reads_from : Unix → ℕ → Process → List ℕ → Opened → (address count : ℕ) → Option Inode → Line
reads_from unix slot process input file address count (Some (File bytes)) =
    let piece = take count (drop file.description.offset bytes) in
    replies_with (with_files unix (with_offset unix.files file (file.description.offset + length piece))) slot process (length piece) address piece
reads_from unix slot process input file address count (Some (Pipe bytes)) =
    let piece = take count bytes in
    if length bytes == 0 && has_writer unix.files file.description.inode then Ok Waits else
    replies_with (with_files unix (with_contents unix.files file (Pipe (drop count bytes)))) slot process (length piece) address piece
reads_from unix slot process input file address count (Some Console) =
    let piece = line_taken count input in
    Ok (Takes (with_phase unix slot process (answered_with (length piece) address piece)) piece (line_left count input))
reads_from unix slot process input file address count (Some (Directory parent places)) = Err Eisdir
reads_from unix slot process input file address count None = Err Ebadf

-- read(descriptor, address, count) (POSIX.1, narrowed: at most 4,096 bytes at once; the console gives at most a line)
abbrev pub read_line : Unix → ℕ → Process → List ℕ → (number address count : ℕ) → Line
read_line unix slot process input number address count = do
  file ← refuse Ebadf unless opened unix process number
  if count == 0 then replies unix slot process 0 else
      reads_from unix slot process input file address count (opened_inode unix file)

-- ---- write

-- bytes with others written from a place on; a gap before it is zero
unfoldable pub overwritten : List ℕ → ℕ → List ℕ → List ℕ
overwritten bytes place written =
    take place bytes ++ replicate (place - length bytes) 0 ++ written ++ drop (place + length written) bytes

-- where a write begins
abbrev pub write_place : Description → List ℕ → ℕ
write_place description bytes = if description.append then length bytes else description.offset

-- the state with a part written to a file
abbrev pub with_written : Unix → Opened → List ℕ → ℕ → List ℕ → Unix
with_written unix file bytes place part =
    with_files unix (with_offset (with_contents unix.files file (File (overwritten bytes place part))) file (place + length part))

-- a file is written from the offset on, or at its end; bytes past the greatest length are cut off
abbrev pub write_file : Unix → ℕ → Process → Opened → (bytes written : List ℕ) → Line
write_file unix slot process file bytes written = do
  let place = write_place file.description bytes
  refuse Efbig when nat_le most_file_bytes place
  let part = take (most_file_bytes - place) written
  refuse Enospc where_not has_room (with_written unix file bytes place part)
  replies (with_written unix file bytes place part) slot process (length part)

-- a pipe takes all bytes or none
abbrev pub write_pipe : Unix → ℕ → Process → Opened → (bytes written : List ℕ) → Line
write_pipe unix slot process file bytes written = do
  refuse Epipe where_not has_reader unix.files file.description.inode
  if nat_lt pipe_bytes (length bytes + length written) then Ok Waits else
      replies (with_files unix (with_contents unix.files file (Pipe (bytes ++ written)))) slot process (length written)

-- by what is written to; a directory is never open for writing, so EBADF never comes here either
abbrev pub writes_to : Unix → ℕ → Process → Opened → List ℕ → Option Inode → Line
writes_to unix slot process file written (Some (File bytes)) = write_file unix slot process file bytes written
writes_to unix slot process file written (Some (Pipe bytes)) = write_pipe unix slot process file bytes written
writes_to unix slot process file written (Some Console) = Ok (Puts (with_phase unix slot process (answered (length written))) written)
writes_to unix slot process file written (Some (Directory parent places)) = Err Ebadf
writes_to unix slot process file written None = Err Ebadf

-- write(descriptor, bytes) (POSIX.1, narrowed: at most 4,096 bytes at once; no signal is sent by EPIPE)
abbrev pub write_line : Unix → ℕ → Process → (number : ℕ) → (written : List ℕ) → Line
write_line unix slot process number written = do
  file ← refuse Ebadf unless opened unix process number
  if length written == 0 then replies unix slot process 0 else
      writes_to unix slot process file written (opened_inode unix file)

-- ---- lseek, fstat, getdents and ftruncate

-- a pipe or the console
abbrev pub is_stream : Option Inode → Bool
is_stream (Some (Pipe bytes)) = true
is_stream (Some Console) = true
is_stream (Some (File bytes)) = false
is_stream (Some (Directory parent places)) = false
is_stream None = false

-- where a seek begins: at the start, at the offset, or at the end
abbrev pub seek_start : Opened → Option Inode → ℕ → ℕ
seek_start file found whence =
    if whence == 0 then 0 else
    if whence == 1 then file.description.offset else
    inode_length found

-- a place and a signed word more, unless that is below 0
abbrev pub moved_by : ℕ → ℕ → Option ℕ
moved_by place word =
    if not (is_negative word) then Some (place + word) else
    if nat_le (2 ^ 32) (place + word) then Some (place + word - 2 ^ 32) else None

-- lseek(descriptor, offset, whence) (POSIX.1, narrowed: offsets are below 2^31, and in a directory at its places)
abbrev pub lseek_line : Unix → ℕ → Process → (number offset whence : ℕ) → Line
lseek_line unix slot process number offset whence = do
  file ← refuse Ebadf unless opened unix process number
  refuse Espipe when is_stream (opened_inode unix file)
  place ← refuse Einval unless moved_by (seek_start file (opened_inode unix file) whence) offset
  refuse Einval when (is_directory (opened_inode unix file) && not (place % place_bytes == 0))
  refuse Eoverflow when nat_le offset_end place
  replies (with_files unix (with_offset unix.files file place)) slot process place

-- the number of a kind, our own
abbrev pub kind_of : Option Inode → ℕ
kind_of (Some (File bytes)) = 1
kind_of (Some (Directory parent places)) = 2
kind_of (Some (Pipe bytes)) = 3
kind_of (Some Console) = 4
kind_of None = 0

-- fstat(descriptor, address) (POSIX.1, narrowed: four words, the kind, the inode, how many entries name it, its length)
abbrev pub fstat_line : Unix → ℕ → Process → (number address : ℕ) → Line
fstat_line unix slot process number address = do
  file ← refuse Ebadf unless opened unix process number
  let found = opened_inode unix file
  replies_with unix slot process 0 address
      (to_le_bytes w32 (kind_of found) ++ to_le_bytes w32 file.description.inode ++ to_le_bytes w32 (links unix.files.inodes file.description.inode) ++ to_le_bytes w32 (inode_length found))

-- the 32 bytes of an entry: its inode, the length of its name, and the name with zeros after it
unfoldable pub entry_bytes : Entry → List ℕ
entry_bytes entry = to_le_bytes w32 entry.inode ++ length entry.name ∷ [] ++ entry.name ++ replicate (most_name_bytes - length entry.name) 0

-- the entries of places, at most so many, and how many places were looked at
abbrev pub listed_bytes : ℕ → List (Option Entry) → List ℕ
listed_bytes zero places = []
listed_bytes (suc n) [] = []
listed_bytes (suc n) (None ∷ places) = listed_bytes (suc n) places
listed_bytes (suc n) (Some entry ∷ places) = entry_bytes entry ++ listed_bytes n places

abbrev pub looked_at : ℕ → List (Option Entry) → ℕ
looked_at zero places = 0
looked_at (suc n) [] = 0
looked_at (suc n) (None ∷ places) = looked_at (suc n) places + 1
looked_at (suc n) (Some entry ∷ places) = looked_at n places + 1

-- getdents(descriptor, address, count), our own: whole entries from the offset on, which goes past the last place that
-- was looked at
abbrev pub getdents_line : Unix → ℕ → Process → (number address count : ℕ) → Line
getdents_line unix slot process number address count = do
  file ← refuse Ebadf unless opened unix process number
  refuse Enotdir where_not is_directory (opened_inode unix file)
  let places = drop (file.description.offset / place_bytes) (places_of (opened_inode unix file))
  let bytes = listed_bytes (count / place_bytes) places
  let offset = file.description.offset + place_bytes * looked_at (count / place_bytes) places
  replies_with (with_files unix (with_offset unix.files file offset)) slot process (length bytes) address bytes

-- bytes cut to a length, or with zeros up to it
unfoldable pub resized : List ℕ → ℕ → List ℕ
resized bytes size = take size bytes ++ replicate (size - length bytes) 0

-- the state with a file of another length
abbrev pub with_resized : Unix → Opened → (bytes : List ℕ) → (size : ℕ) → Unix
with_resized unix file bytes size = with_files unix (with_contents unix.files file (File (resized bytes size)))

-- ftruncate(descriptor, length) (POSIX.1)
abbrev pub ftruncate_line : Unix → ℕ → Process → (number size : ℕ) → Line
ftruncate_line unix slot process number size = do
  file ← refuse Ebadf unless opened unix process number
  bytes ← refuse Einval unless file_bytes (opened_inode unix file)
  refuse Efbig when nat_lt most_file_bytes size
  refuse Enospc where_not has_room (with_resized unix file bytes size)
  replies (with_resized unix file bytes size) slot process 0
