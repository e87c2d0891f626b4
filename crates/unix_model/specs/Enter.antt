-- A system call at the keeper: a line for each call, with its arguments a0 to a3. The keeper makes the tests that need
-- the process alone and its descriptors, in their order, and then answers the call, or sends it to a server with the
-- bytes that it brings. The lines give the process after that; a refused call is answered with its errno. Where a call
-- comes from stands at the line by which its server answers it, and here where the keeper answers it.
use Rattle.std.specs.Prelude.{ℕ, zero, suc, ◌+◌, ◌-◌, ◌%◌, Bool, not, ◌&&◌, ◌||◌, List, [], ◌∷◌, ◌++◌, length, min, Result, Ok, Err, bit_and, ◌==◌, nat_lt, nat_le, if◌then◌else◌}
use Rattle.unix_model.specs.declared.calls.Call.{Call}
use Rattle.unix_model.specs.declared.calls.Call.TheVariants.{Exit, Fork, Exec, Wait, Waitpid, Getpid, Getppid, Brk, Open, Close, Read, Write, Lseek, Dup, Dup2, Pipe, Mkdir, Rmdir, Unlink, Link, Rename, Fstat, Getdents, Ftruncate, Kill}
use Rattle.unix_model.specs.declared.calls.Errno.{Errno}
use Rattle.unix_model.specs.declared.calls.Errno.TheVariants.{E2big, Ebadf, Efault, Einval, Enametoolong, Enomem, Enosys}
use Rattle.unix_model.specs.Calls.{Calls}
use Rattle.unix_model.specs.Limits.{descriptor_count, loads_end, most_moved, most_path_bytes, most_strings, most_string_bytes, offset_end, place_bytes}
use Rattle.unix_model.specs.Memory.{Memory, all_writable, byte_at, bytes_at, word_at, with_break}
use Rattle.unix_model.specs.Numbers.{is_negative, minus_one}
use Rattle.unix_model.specs.Process.{Process, Sent, answered, argument, in_phase, refused}
use Rattle.unix_model.specs.Refusals.{◌>>=◌, ◌>>◌, refuse◌when◌, refuse◌where_not◌, refuse◌unless◌}
use Rattle.unix_model.specs.Room.{has_room}
use Rattle.unix_model.specs.State.{Unix, opened, with_process}

-- ---- words of the lines

-- what the keeper makes of the process
abbrev pub Entered : Type 0
Entered = Result Process Errno

-- the call is answered at once
abbrev pub answers : Process → ℕ → Entered
answers process value = Ok (in_phase process (answered value))

-- the words of a0 to a3
abbrev pub arguments : Process → List ℕ
arguments process = argument process 0 ∷ argument process 1 ∷ argument process 2 ∷ argument process 3 ∷ []

-- a count, cut to what one call moves
abbrev pub cut_count : ℕ → ℕ
cut_count count = min count most_moved

-- the same words, with the count in a2 cut
abbrev pub arguments_cut : Process → List ℕ
arguments_cut process = argument process 0 ∷ argument process 1 ∷ cut_count (argument process 2) ∷ argument process 3 ∷ []

-- the call is sent to a server with its arguments, and with these bytes
abbrev pub sends : Process → Call → List ℕ → Entered
sends process call bytes = Ok (in_phase process (Sent (record { call = call; arguments = arguments process; bytes = bytes })))

abbrev pub sends_cut : Process → Call → List ℕ → Entered
sends_cut process call bytes = Ok (in_phase process (Sent (record { call = call; arguments = arguments_cut process; bytes = bytes })))

-- a range that the call writes may be left out: its address is then 0
abbrev pub is_given : Memory → ℕ → ℕ → Bool
is_given memory address size = address == 0 || all_writable memory address size

-- the text at an address up to a NUL, which is left off. At most so many bytes are read, and the refusal says that there
-- was no NUL among them
unfoldable pub text_at : Memory → Errno → ℕ → ℕ → Result (List ℕ) Errno
text_at memory too_long zero address = Err too_long
text_at memory too_long (suc n) address = do
  byte ← refuse Efault unless byte_at memory address
  if byte == 0 then Ok [] else do
    bytes ← text_at memory too_long n (address + 1)
    Ok (byte ∷ bytes)

-- a path has at most 255 bytes and its NUL
abbrev pub path_at : Memory → ℕ → Result (List ℕ) Errno
path_at memory address = text_at memory Enametoolong (most_path_bytes + 1) address

-- a text as a request holds it
abbrev pub with_nul : List ℕ → List ℕ
with_nul text = text ++ 0 ∷ []

-- the strings of the pointers at an address, up to a pointer that is 0, each with its NUL: at most so many, which have
-- room for so many bytes. A pointer's four bytes are read first; the byte past the room is read, and then refused
unfoldable pub strings_at : Memory → (most room address : ℕ) → Result (List ℕ) Errno
strings_at memory zero room address = do
  pointer ← refuse Efault unless word_at memory address
  refuse E2big where_not pointer == 0
  Ok []
strings_at memory (suc n) room address = do
  pointer ← refuse Efault unless word_at memory address
  if pointer == 0 then Ok [] else do
    text ← text_at memory E2big (room + 1) pointer
    refuse E2big when nat_lt room (length text + 1)
    texts ← strings_at memory n (room - (length text + 1)) (address + 4)
    Ok (with_nul text ++ texts)

-- The flags of open: 0 to read, 1 to write, 2 for both, and more (POSIX.1, O_APPEND, O_CREAT, O_EXCL, O_TRUNC; the numbers
-- are our own). A file that is opened to read alone can't be truncated.
abbrev pub append_flag : ℕ
append_flag = 8

abbrev pub create_flag : ℕ
create_flag = 16

abbrev pub exclusive_flag : ℕ
exclusive_flag = 32

abbrev pub truncate_flag : ℕ
truncate_flag = 64

abbrev pub has_flag : ℕ → ℕ → Bool
has_flag flags flag = not (bit_and flags flag == 0)

abbrev pub are_flags : ℕ → Bool
are_flags flags = nat_lt flags 128 && not (has_flag flags 4) && not (flags % 4 == 3) && not (has_flag flags truncate_flag && flags % 4 == 0)

-- ---- the lines

-- exec(path, arguments)
abbrev pub exec_enters : Process → (path arguments : ℕ) → Entered
exec_enters process path arguments = do
  text ← path_at process.memory path
  texts ← if arguments == 0 then Ok [] else strings_at process.memory most_strings (most_string_bytes - (length text + 1)) arguments
  sends process Exec (with_nul text ++ texts)

-- wait(address)
abbrev pub wait_enters : Process → (address : ℕ) → Entered
wait_enters process address = do
  refuse Efault where_not is_given process.memory address 4
  sends process Wait []

-- waitpid(pid, address, options)
abbrev pub waitpid_enters : Process → (pid address options : ℕ) → Entered
waitpid_enters process pid address options = do
  refuse Einval when nat_lt 1 options
  refuse Einval when (pid == 0 || is_negative pid && not (pid == minus_one))
  refuse Efault where_not is_given process.memory address 4
  sends process Waitpid []

-- open(path, flags)
abbrev pub open_enters : Process → (path flags : ℕ) → Entered
open_enters process path flags = do
  refuse Einval where_not are_flags flags
  text ← path_at process.memory path
  sends process Open (with_nul text)

-- close(descriptor) and dup(descriptor)
abbrev pub descriptor_enters : Unix → Process → Call → (number : ℕ) → Entered
descriptor_enters unix process call number = do
  file ← refuse Ebadf unless opened unix process number
  sends process call []

-- read(descriptor, address, count)
abbrev pub read_enters : Unix → Process → (number address count : ℕ) → Entered
read_enters unix process number address count = do
  file ← refuse Ebadf unless opened unix process number
  refuse Ebadf where_not file.description.readable
  refuse Efault where_not all_writable process.memory address (cut_count count)
  sends_cut process Read []

-- write(descriptor, address, count)
abbrev pub write_enters : Unix → Process → (number address count : ℕ) → Entered
write_enters unix process number address count = do
  file ← refuse Ebadf unless opened unix process number
  refuse Ebadf where_not file.description.writable
  bytes ← refuse Efault unless bytes_at process.memory address (cut_count count)
  sends_cut process Write bytes

-- lseek(descriptor, offset, whence)
abbrev pub lseek_enters : Unix → Process → (number whence : ℕ) → Entered
lseek_enters unix process number whence = do
  file ← refuse Ebadf unless opened unix process number
  refuse Einval when nat_lt 2 whence
  sends process Lseek []

-- dup2(descriptor, to)
abbrev pub dup2_enters : Unix → Process → (number to : ℕ) → Entered
dup2_enters unix process number to = do
  file ← refuse Ebadf unless opened unix process number
  refuse Ebadf when nat_le descriptor_count to
  sends process Dup2 []

-- pipe(address)
abbrev pub pipe_enters : Process → (address : ℕ) → Entered
pipe_enters process address = do
  refuse Efault where_not all_writable process.memory address 8
  sends process Pipe []

-- mkdir(path), rmdir(path) and unlink(path)
abbrev pub path_enters : Process → Call → (path : ℕ) → Entered
path_enters process call path = do
  text ← path_at process.memory path
  sends process call (with_nul text)

-- link(old, new) and rename(old, new)
abbrev pub paths_enter : Process → Call → (old new : ℕ) → Entered
paths_enter process call old new = do
  from ← path_at process.memory old
  to ← path_at process.memory new
  sends process call (with_nul from ++ with_nul to)

-- fstat(descriptor, address)
abbrev pub fstat_enters : Unix → Process → (number address : ℕ) → Entered
fstat_enters unix process number address = do
  file ← refuse Ebadf unless opened unix process number
  refuse Efault where_not all_writable process.memory address 16
  sends process Fstat []

-- getdents(descriptor, address, count)
abbrev pub getdents_enters : Unix → Process → (number address count : ℕ) → Entered
getdents_enters unix process number address count = do
  file ← refuse Ebadf unless opened unix process number
  refuse Einval when nat_lt count place_bytes
  refuse Efault where_not all_writable process.memory address (cut_count count)
  sends_cut process Getdents []

-- ftruncate(descriptor, length)
abbrev pub ftruncate_enters : Unix → Process → (number size : ℕ) → Entered
ftruncate_enters unix process number size = do
  file ← refuse Ebadf unless opened unix process number
  refuse Einval where_not file.description.writable
  refuse Einval when nat_le offset_end size
  sends process Ftruncate []

-- kill(pid, signal)
abbrev pub kill_enters : Process → (pid signal : ℕ) → Entered
kill_enters process pid signal = do
  refuse Einval where_not (signal == 9 || signal == 15)
  refuse Einval when (pid == 0 || is_negative pid)
  sends process Kill []

-- the process with another break
abbrev pub with_moved_break : Process → ℕ → Process
with_moved_break process address =
    record process { memory = with_break process.memory process.break_start process.break_end address; break_end = address }

-- brk(address), our own: 0 asks where the break is
abbrev pub brk_enters : Unix → ℕ → Process → (address : ℕ) → Entered
brk_enters unix slot process address =
    if address == 0 then answers process process.break_end else do
      refuse Einval when nat_lt address process.break_start
      refuse Enomem when nat_lt loads_end address
      refuse Enomem where_not has_room (with_process unix slot (with_moved_break process address))
      answers (with_moved_break process address) address

-- ---- the table

-- getpid() and getppid() are POSIX.1's
abbrev pub call_enters : Unix → ℕ → Process → (a0 a1 a2 : ℕ) → Call → Entered
call_enters unix slot process a0 a1 a2 Exit = sends process Exit []
call_enters unix slot process a0 a1 a2 Fork = sends process Fork []
call_enters unix slot process a0 a1 a2 Exec = exec_enters process a0 a1
call_enters unix slot process a0 a1 a2 Wait = wait_enters process a0
call_enters unix slot process a0 a1 a2 Waitpid = waitpid_enters process a0 a1 a2
call_enters unix slot process a0 a1 a2 Getpid = answers process process.pid
call_enters unix slot process a0 a1 a2 Getppid = answers process process.parent
call_enters unix slot process a0 a1 a2 Brk = brk_enters unix slot process a0
call_enters unix slot process a0 a1 a2 Open = open_enters process a0 a1
call_enters unix slot process a0 a1 a2 Close = descriptor_enters unix process Close a0
call_enters unix slot process a0 a1 a2 Read = read_enters unix process a0 a1 a2
call_enters unix slot process a0 a1 a2 Write = write_enters unix process a0 a1 a2
call_enters unix slot process a0 a1 a2 Lseek = lseek_enters unix process a0 a2
call_enters unix slot process a0 a1 a2 Dup = descriptor_enters unix process Dup a0
call_enters unix slot process a0 a1 a2 Dup2 = dup2_enters unix process a0 a1
call_enters unix slot process a0 a1 a2 Pipe = pipe_enters process a0
call_enters unix slot process a0 a1 a2 Mkdir = path_enters process Mkdir a0
call_enters unix slot process a0 a1 a2 Rmdir = path_enters process Rmdir a0
call_enters unix slot process a0 a1 a2 Unlink = path_enters process Unlink a0
call_enters unix slot process a0 a1 a2 Link = paths_enter process Link a0 a1
call_enters unix slot process a0 a1 a2 Rename = paths_enter process Rename a0 a1
call_enters unix slot process a0 a1 a2 Fstat = fstat_enters unix process a0 a1
call_enters unix slot process a0 a1 a2 Getdents = getdents_enters unix process a0 a1 a2
call_enters unix slot process a0 a1 a2 Ftruncate = ftruncate_enters unix process a0 a1
call_enters unix slot process a0 a1 a2 Kill = kill_enters process a0 a1

-- by the number in a7; one without a call is refused
unfoldable pub entered_line : Calls → Unix → ℕ → Process → Entered
entered_line calls unix slot process = do
  call ← refuse Enosys unless calls (argument process 7)
  call_enters unix slot process (argument process 0) (argument process 1) (argument process 2) call

-- a refused call is answered with its errno, and changes nothing else
abbrev pub or_refused : Process → Entered → Process
or_refused process (Ok after) = after
or_refused process (Err errno) = refused process errno

-- the process after its turn in Asked
abbrev pub entered : Calls → Unix → ℕ → Process → Process
entered calls unix slot process = or_refused process (entered_line calls unix slot process)
