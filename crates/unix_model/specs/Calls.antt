-- The numbers of system calls and of refusals.
use Rattle.std.specs.Prelude.{ℕ, ◌-◌, ◌^◌, ◌==◌, Option, Some, None, if◌then◌else◌}
use Rattle.unix_model.specs.declared.calls.Call.{Call}
use Rattle.unix_model.specs.declared.calls.Call.TheVariants.{Exit, Fork, Exec, Wait, Waitpid, Getpid, Getppid, Brk, Open, Close, Read, Write, Lseek, Dup, Dup2, Pipe, Mkdir, Rmdir, Unlink, Link, Rename, Fstat, Getdents, Ftruncate, Kill}
use Rattle.unix_model.specs.declared.calls.Errno.{Errno}
use Rattle.unix_model.specs.declared.calls.Errno.TheVariants.{Eperm, Enoent, Esrch, E2big, Enoexec, Ebadf, Echild, Eagain, Enomem, Eacces, Efault, Ebusy, Eexist, Enotdir, Eisdir, Einval, Enfile, Emfile, Efbig, Enospc, Espipe, Epipe, Enametoolong, Enosys, Enotempty, Eoverflow}

-- which numbers ask for which calls: a table, since a machine may serve a part of them
abbrev pub Calls : Type 0
Calls = ℕ → Option Call

-- the call that a number in a7 asks for
unfoldable pub call_of : Calls
call_of number =
    if number == 1 then Some Exit else
    if number == 2 then Some Fork else
    if number == 3 then Some Exec else
    if number == 4 then Some Wait else
    if number == 5 then Some Waitpid else
    if number == 6 then Some Getpid else
    if number == 7 then Some Getppid else
    if number == 8 then Some Brk else
    if number == 9 then Some Open else
    if number == 10 then Some Close else
    if number == 11 then Some Read else
    if number == 12 then Some Write else
    if number == 13 then Some Lseek else
    if number == 14 then Some Dup else
    if number == 15 then Some Dup2 else
    if number == 16 then Some Pipe else
    if number == 17 then Some Mkdir else
    if number == 18 then Some Rmdir else
    if number == 19 then Some Unlink else
    if number == 20 then Some Link else
    if number == 21 then Some Rename else
    if number == 22 then Some Fstat else
    if number == 23 then Some Getdents else
    if number == 24 then Some Ftruncate else
    if number == 25 then Some Kill else
    None

-- the number of a refusal
abbrev pub errno_number : Errno → ℕ
errno_number Eperm = 1
errno_number Enoent = 2
errno_number Esrch = 3
errno_number E2big = 7
errno_number Enoexec = 8
errno_number Ebadf = 9
errno_number Echild = 10
errno_number Eagain = 11
errno_number Enomem = 12
errno_number Eacces = 13
errno_number Efault = 14
errno_number Ebusy = 16
errno_number Eexist = 17
errno_number Enotdir = 20
errno_number Eisdir = 21
errno_number Einval = 22
errno_number Enfile = 23
errno_number Emfile = 24
errno_number Efbig = 27
errno_number Enospc = 28
errno_number Espipe = 29
errno_number Epipe = 32
errno_number Enametoolong = 36
errno_number Enosys = 38
errno_number Enotempty = 39
errno_number Eoverflow = 75

-- what a refused call leaves in a0: the number negated, modulo 2^32
abbrev pub refusal_word : Errno → ℕ
refusal_word errno = 2 ^ 32 - errno_number errno
