-- The families of system calls.
use Rattle.unix_model.specs.declared.calls.Call.{Call}
use Rattle.unix_model.specs.declared.calls.Call.TheVariants.{Exit, Fork, Exec, Wait, Waitpid, Getpid, Getppid, Brk, Open, Close, Read, Write, Lseek, Dup, Dup2, Pipe, Mkdir, Rmdir, Unlink, Link, Rename, Fstat, Getdents, Ftruncate, Kill}
use Rattle.flat_unix.specs.declared.families.Family.{Family}
use Rattle.flat_unix.specs.declared.families.Family.TheVariants.{Keeper, Processes, Names, Descriptors, Streams}

abbrev pub family_of : Call → Family
family_of Exit = Processes
family_of Fork = Processes
family_of Exec = Processes
family_of Wait = Processes
family_of Waitpid = Processes
family_of Getpid = Keeper
family_of Getppid = Keeper
family_of Brk = Keeper
family_of Open = Names
family_of Close = Descriptors
family_of Read = Streams
family_of Write = Streams
family_of Lseek = Descriptors
family_of Dup = Descriptors
family_of Dup2 = Descriptors
family_of Pipe = Descriptors
family_of Mkdir = Names
family_of Rmdir = Names
family_of Unlink = Names
family_of Link = Names
family_of Rename = Names
family_of Fstat = Descriptors
family_of Getdents = Descriptors
family_of Ftruncate = Descriptors
family_of Kill = Processes
