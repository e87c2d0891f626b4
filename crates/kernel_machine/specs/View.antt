-- The flat state that a machine stands for.
use Rattle.std.specs.Prelude.{ℕ, zero, suc, ◌/◌, List, [], ◌∷◌, ◌++◌, take, Option, Some, None, option_map}
use Rattle.kernel_tables.specs.declared.inode.Inode.{Inode as Row}
use Rattle.kernel_tables.specs.declared.inode.InodeKind.{InodeKind}
use Rattle.kernel_tables.specs.declared.inode.InodeKind.TheVariants as kind
use Rattle.kernel_tables.specs.declared.description.Description.{Description as Open}
use Rattle.unix_model.specs.declared.calls.Call.{Call}
use Rattle.unix_model.specs.declared.calls.Request.{Request}
use Rattle.unix_model.specs.Calls.{call_of}
use Rattle.unix_model.specs.Files as model
use Rattle.unix_model.specs.Files.{Files}
use Rattle.unix_model.specs.Limits.{descriptor_count, place_bytes}
use Rattle.unix_model.specs.Memory.{Memory}
use Rattle.unix_model.specs.Process as process
use Rattle.unix_model.specs.State.{Unix}
use Rattle.unix_model.specs.Tables.{at, nothing}
use Rattle.forest.specs.Walks.{map_of}
use Rattle.user_copy.specs.SpaceMemory.{memory_by}
use Rattle.domain.specs.declared.types.Phase.{Phase}
use Rattle.domain.specs.declared.types.Phase.TheVariants.{Run, Asked, Sent, Done, Exiting, Zombie}
use Rattle.domain.specs.Domains.{Domain, regs_by}
use Rattle.kernel_machine.specs.Machine.{KernelMachine}
use Rattle.kernel_machine.specs.Contents.{file_in, places_in, ring_in}

-- ---- a process

-- the first so many of a table
unfoldable pub listed : {X : Type 0} → (ℕ → X) → ℕ → List X
listed table zero = []
listed table (suc n) = listed table n ++ at table n ∷ []

-- the memory of a space; a process that has ended has none
unfoldable pub memory_in : KernelMachine → Option ℕ → Memory
memory_in machine None = nothing
memory_in machine (Some space) = memory_by machine.page_bytes (map_of machine.forest.keys space)

-- the first bytes of a buffer
abbrev pub buffer_in : (ℕ → List ℕ) → Option ℕ → ℕ → List ℕ
buffer_in bytes None length = []
buffer_in bytes (Some page) length = take length (bytes page)

-- a call that was sent. Each request of a good machine has the number of one
abbrev pub sent_call : Request → List ℕ → Option Call → process.Phase
sent_call request bytes None = process.Asked
sent_call request bytes (Some call) = process.Sent (record { call = call; arguments = request.args; bytes = bytes })

abbrev pub phase_in : (ℕ → List ℕ) → Domain → Phase → process.Phase
phase_in bytes domain Run = process.Run
phase_in bytes domain Asked = process.Asked
phase_in bytes domain Sent = sent_call domain.request (buffer_in bytes domain.buffer domain.request.length) (call_of domain.request.call)
phase_in bytes domain Done = process.Done domain.answer.value domain.answer.at (buffer_in bytes domain.buffer domain.answer.length)
phase_in bytes domain Exiting = process.Exiting domain.word
phase_in bytes domain Zombie = process.Zombie domain.word

-- the process of a domain
unfoldable pub process_in : KernelMachine → Domain → process.Process
process_in machine domain =
    record {
      pid = domain.pid;
      parent = domain.parent;
      registers = regs_by domain.regs;
      memory = memory_in machine domain.space;
      break_start = domain.break_start;
      break_end = domain.break_end;
      descriptors = listed domain.descriptors descriptor_count;
      phase = phase_in machine.page_bytes domain domain.phase;
    }

-- the processes in their slots
unfoldable pub processes_in : KernelMachine → ℕ → Option process.Process
processes_in machine = λ slot. option_map (λ root. process_in machine (at machine.domains root)) (at machine.roots slot)

-- ---- files

-- the pages of the tree of a file; the root word 0 stands for no tree
unfoldable pub file_memory : KernelMachine → ℕ → Memory
file_memory machine zero = nothing
file_memory machine (suc root) = memory_in machine (Some (suc root))

-- the bytes of the inode of a file or directory
abbrev pub stored : KernelMachine → Row → List ℕ
stored machine row = file_in (file_memory machine row.root) row.length

abbrev pub inode_by : KernelMachine → Row → InodeKind → model.Inode
inode_by machine row kind.File = model.File (stored machine row)
inode_by machine row kind.Dir = model.Directory row.parent (places_in (stored machine row) (row.length / place_bytes))
inode_by machine row kind.Pipe = model.Pipe (ring_in (machine.page_bytes row.root) row.start row.length)
inode_by machine row kind.Console = model.Console

unfoldable pub inode_in : KernelMachine → Row → model.Inode
inode_in machine row = inode_by machine row row.kind

unfoldable pub inodes_in : KernelMachine → ℕ → Option model.Inode
inodes_in machine = λ number. option_map (inode_in machine) (at machine.inodes number)

abbrev pub description_in : Open → model.Description
description_in row =
    record {
      inode = row.inode;
      readable = row.readable;
      writable = row.writable;
      append = row.append;
      offset = row.offset;
    }

unfoldable pub descriptions_in : KernelMachine → ℕ → Option model.Description
descriptions_in machine = λ number. option_map description_in (at machine.descriptions number)

-- ---- the state

abbrev pub files_in : KernelMachine → Files
files_in machine = record { inodes = inodes_in machine; descriptions = descriptions_in machine }

unfoldable pub view : KernelMachine → Unix
view machine =
    record {
      processes = processes_in machine;
      files = files_in machine;
      next_pid = machine.words.next_pid;
      pages = machine.words.size;
      quantum = machine.words.quantum;
      position = machine.words.position;
    }
