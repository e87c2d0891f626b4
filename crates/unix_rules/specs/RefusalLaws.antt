-- Which refusals each call may meet, at the keeper and at its server.
use Rattle.std.specs.Prelude.{◌≡◌, ℕ, Bool, true, List, [], ◌∷◌, ◌==◌, Some, None, Err}
use Rattle.std.specs.List.{list_any}
use Rattle.unix_model.specs.declared.calls.Call.{Call}
use Rattle.unix_model.specs.declared.calls.Call.TheVariants.{Exit, Fork, Exec, Wait, Waitpid, Getpid, Getppid, Brk, Open, Close, Read, Write, Lseek, Dup, Dup2, Pipe, Mkdir, Rmdir, Unlink, Link, Rename, Fstat, Getdents, Ftruncate, Kill}
use Rattle.unix_model.specs.declared.calls.Errno.{Errno}
use Rattle.unix_model.specs.declared.calls.Errno.TheVariants.{Eperm, Enoent, Esrch, E2big, Enoexec, Ebadf, Echild, Eagain, Enomem, Eacces, Efault, Ebusy, Eexist, Enotdir, Eisdir, Einval, Enfile, Emfile, Efbig, Enospc, Espipe, Epipe, Enametoolong, Enotempty, Eoverflow}
use Rattle.unix_model.specs.Calls.{Calls, errno_number}
use Rattle.unix_model.specs.Enter.{entered_line}
use Rattle.unix_model.specs.FileCalls.{pipe_line}
use Rattle.unix_model.specs.Files.{free_inode}
use Rattle.unix_model.specs.Process.{Process, SentCall, Sent, argument}
use Rattle.unix_model.specs.Rules.{IsUnix}
use Rattle.unix_model.specs.State.{Unix}
use Rattle.unix_model.specs.Tables.{at}
use Rattle.unix_model.specs.Turn.{call_line}

-- the refusals of a call at the keeper
abbrev pub keeper_row : Call → List Errno
keeper_row Exit = []
keeper_row Fork = []
keeper_row Exec = Efault ∷ Enametoolong ∷ E2big ∷ []
keeper_row Wait = Efault ∷ []
keeper_row Waitpid = Einval ∷ Efault ∷ []
keeper_row Getpid = []
keeper_row Getppid = []
keeper_row Brk = Einval ∷ Enomem ∷ []
keeper_row Open = Einval ∷ Efault ∷ Enametoolong ∷ []
keeper_row Close = Ebadf ∷ []
keeper_row Read = Ebadf ∷ Efault ∷ []
keeper_row Write = Ebadf ∷ Efault ∷ []
keeper_row Lseek = Ebadf ∷ Einval ∷ []
keeper_row Dup = Ebadf ∷ []
keeper_row Dup2 = Ebadf ∷ []
keeper_row Pipe = Efault ∷ []
keeper_row Mkdir = Efault ∷ Enametoolong ∷ []
keeper_row Rmdir = Efault ∷ Enametoolong ∷ []
keeper_row Unlink = Efault ∷ Enametoolong ∷ []
keeper_row Link = Efault ∷ Enametoolong ∷ []
keeper_row Rename = Efault ∷ Enametoolong ∷ []
keeper_row Fstat = Ebadf ∷ Efault ∷ []
keeper_row Getdents = Ebadf ∷ Einval ∷ Efault ∷ []
keeper_row Ftruncate = Ebadf ∷ Einval ∷ []
keeper_row Kill = Einval ∷ []

-- The refusals of a call at its server. Those of a walk are ENOENT, ENOTDIR and ENAMETOOLONG. EBADF and ENOSYS never come
-- here, nor ENFILE for want of a description: of pipe it says that no inode is free.
abbrev pub server_row : Call → List Errno
server_row Exit = []
server_row Fork = Eagain ∷ Enomem ∷ []
server_row Exec = Enoent ∷ Enotdir ∷ Enametoolong ∷ Eacces ∷ Enoexec ∷ Enomem ∷ []
server_row Wait = Echild ∷ []
server_row Waitpid = Echild ∷ []
server_row Getpid = []
server_row Getppid = []
server_row Brk = []
server_row Open = Emfile ∷ Enoent ∷ Enotdir ∷ Enametoolong ∷ Eexist ∷ Eisdir ∷ Enospc ∷ []
server_row Close = []
server_row Read = Eisdir ∷ []
server_row Write = Efbig ∷ Enospc ∷ Epipe ∷ []
server_row Lseek = Espipe ∷ Einval ∷ Eoverflow ∷ []
server_row Dup = Emfile ∷ []
server_row Dup2 = []
server_row Pipe = Emfile ∷ Enfile ∷ Enomem ∷ []
server_row Mkdir = Enoent ∷ Enotdir ∷ Enametoolong ∷ Eexist ∷ Enospc ∷ []
server_row Rmdir = Enoent ∷ Enotdir ∷ Enametoolong ∷ Ebusy ∷ Einval ∷ Enotempty ∷ []
server_row Unlink = Enoent ∷ Enotdir ∷ Enametoolong ∷ Eperm ∷ []
server_row Link = Enoent ∷ Enotdir ∷ Enametoolong ∷ Eperm ∷ Eexist ∷ Enospc ∷ []
server_row Rename = Enoent ∷ Enotdir ∷ Enametoolong ∷ Ebusy ∷ Einval ∷ Eisdir ∷ Enotempty ∷ Enospc ∷ []
server_row Fstat = []
server_row Getdents = Enotdir ∷ []
server_row Ftruncate = Einval ∷ Efbig ∷ Enospc ∷ []
server_row Kill = Esrch ∷ []

-- a refusal is one of these
abbrev pub is_errno : Errno → Errno → Bool
is_errno errno other = errno_number other == errno_number errno

abbrev pub is_among : Errno → List Errno → Bool
is_among errno row = list_any (is_errno errno) row

-- The keeper refuses a call with the refusals of its row alone.
abbrev pub KeeperRows : Type 0
KeeperRows =
    (calls : Calls) (unix : Unix) (slot : ℕ) (process : Process) (call : Call) (errno : Errno)
    → calls (argument process 7) ≡ Some call → entered_line calls unix slot process ≡ Err errno → is_among errno (keeper_row call) ≡ true

-- And so does its server a call that was sent.
abbrev pub ServerRows : Type 0
ServerRows =
    (calls : Calls) (unix : Unix) (slot : ℕ) (process : Process) (sent : SentCall) (input : List ℕ) (errno : Errno)
    → IsUnix calls unix → at unix.processes slot ≡ Some process → process.phase ≡ Sent sent → call_line unix slot process input sent sent.call ≡ Err errno → is_among errno (server_row sent.call) ≡ true

-- The one ENFILE of pipe says that no inode is free.
abbrev pub PipeWantsInode : Type 0
PipeWantsInode =
    (calls : Calls) (unix : Unix) (slot : ℕ) (process : Process) (address : ℕ)
    → IsUnix calls unix → at unix.processes slot ≡ Some process → pipe_line unix slot process address ≡ Err Enfile → free_inode unix.files.inodes ≡ None
