-- What all that stands says of a pipe.
use Rattle.std.specs.Prelude.{◌≡◌, ℕ, Some}
use Rattle.kernel_tables.specs.Kernel.{Kernel}
use Rattle.unix_model.specs.Files as model
use Rattle.unix_model.specs.Tables.{at}
use Rattle.kernel_machine.specs.Counts.{opens}
use Rattle.kernel_machine.specs.Machine.{machine_of}
use Rattle.kernel_machine.specs.Standing.{Standing}
use Rattle.kernel_machine.specs.View.{descriptions_in, inodes_in}
use Rattle.pipe_domain.specs.Pipes.{IsPipeAt, PipeGood, pipe_at, queue}

-- Where all stands, and an inode of a pipe says how many descriptions are open on it, calls on that pipe may be made.
abbrev pub PipeIsGood : Type 0
PipeIsGood =
    (kernel : Kernel) (pipe : ℕ) → Standing kernel → IsPipeAt kernel pipe → (pipe_at kernel pipe).opens ≡ opens (descriptions_in (machine_of kernel)) pipe
    → PipeGood kernel pipe

-- What a call on a pipe takes for its contents is what the flat state has.
abbrev pub PipeIsSeen : Type 0
PipeIsSeen =
    (kernel : Kernel) (pipe : ℕ) → PipeGood kernel pipe → at (inodes_in (machine_of kernel)) pipe ≡ Some (model.Pipe (queue kernel pipe))
