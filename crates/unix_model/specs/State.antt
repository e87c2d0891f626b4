-- The state of the flat Unix machine: 64 process slots, inodes and open descriptions, the next process id, the pages P of
-- the machine, the quantum Q, and the position in the round, below 64 * Q.
use Rattle.std.specs.Prelude.{ℕ, ◌+◌, ◌*◌, Bool, false, Option, Some, None, is_none, ◌==◌, if◌then◌else◌}
use Rattle.std.specs.List.{list_any}
use Rattle.unix_model.specs.Files.{Files, Inode, Description, with_description_freed}
use Rattle.unix_model.specs.Limits.{slot_count}
use Rattle.unix_model.specs.Process.{Process, Phase, Run, Asked, Sent, Done, Exiting, Zombie, descriptor, in_phase, without_descriptor}
use Rattle.unix_model.specs.Tables.{at, with_at, any_below, least_below}

pub record Unix : Type 0 where
  pub processes : ℕ → Option Process
  pub files : Files
  pub next_pid : ℕ
  pub pages : ℕ
  pub quantum : ℕ
  pub position : ℕ

abbrev pub with_process : Unix → ℕ → Process → Unix
with_process unix slot process = record unix { processes = with_at unix.processes slot (Some process) }

-- the state with a slot free
abbrev pub without_process : Unix → ℕ → Unix
without_process unix slot = record unix { processes = with_at unix.processes slot None }

-- the descriptor names this description
abbrev pub names_description : ℕ → Option ℕ → Bool
names_description description None = false
names_description description (Some number) = number == description

-- the process has a descriptor of this description
abbrev pub process_names : ℕ → Option Process → Bool
process_names description None = false
process_names description (Some process) = list_any (names_description description) process.descriptors

-- some process has a descriptor of this description
abbrev pub has_descriptor : (ℕ → Option Process) → ℕ → Bool
has_descriptor processes description = any_below (λ slot. process_names description (at processes slot)) slot_count

-- the state after a descriptor of a description was closed: one without another descriptor is freed
abbrev pub with_description_released : Unix → ℕ → Unix
with_description_released unix number =
    if has_descriptor unix.processes number then unix else
    record unix { files = with_description_freed unix.files number (at unix.files.descriptions number) }

-- the state after a process closed one of its descriptors
abbrev pub with_descriptor_closed : Unix → ℕ → Process → ℕ → Option ℕ → Unix
with_descriptor_closed unix slot process number None = unix
with_descriptor_closed unix slot process number (Some description) =
    with_description_released (with_process unix slot (without_descriptor process number)) description

-- an open description with its number
pub record Opened : Type 0 where
  pub number : ℕ
  pub description : Description

abbrev pub opened_as : ℕ → Option Description → Option Opened
opened_as number None = None
opened_as number (Some description) = Some (record { number = number; description = description })

abbrev pub opened_at : Files → Option ℕ → Option Opened
opened_at files None = None
opened_at files (Some number) = opened_as number (at files.descriptions number)

-- what a descriptor of a process is open on, or None where it is closed or no descriptor
abbrev pub opened : Unix → Process → ℕ → Option Opened
opened unix process number = opened_at unix.files (descriptor process number)

-- the inode of an open description
abbrev pub opened_inode : Unix → Opened → Option Inode
opened_inode unix file = at unix.files.inodes file.description.inode

abbrev pub with_files : Unix → Files → Unix
with_files unix files = record unix { files = files }

-- the state with a process in a slot, in this phase
abbrev pub with_phase : Unix → ℕ → Process → Phase → Unix
with_phase unix slot process phase = with_process unix slot (in_phase process phase)

-- the least slot without a process
unfoldable pub free_slot : (ℕ → Option Process) → Option ℕ
free_slot processes = least_below (λ slot. is_none (at processes slot)) slot_count

abbrev pub has_pid : ℕ → Option Process → Bool
has_pid pid None = false
has_pid pid (Some process) = process.pid == pid

-- the slot of the process of a pid
unfoldable pub slot_of : (ℕ → Option Process) → ℕ → Option ℕ
slot_of processes pid = least_below (λ slot. has_pid pid (at processes slot)) slot_count

-- the process, a child of process 1 where it was a child of the one that ended
abbrev pub adopted : ℕ → Process → Process
adopted ended process = if process.parent == ended then record process { parent = 1 } else process

-- the wait word of a process that has ended
abbrev pub phase_word : Phase → Option ℕ
phase_word Run = None
phase_word Asked = None
phase_word (Sent sent) = None
phase_word (Done value address bytes) = None
phase_word (Exiting word) = None
phase_word (Zombie word) = Some word

abbrev pub process_word : Option Process → Option ℕ
process_word None = None
process_word (Some process) = phase_word process.phase

-- the machine is halted where slot 0 is a zombie, with its wait word
abbrev pub halted_word : Unix → Option ℕ
halted_word unix = process_word (at unix.processes 0)

-- the position after a turn
abbrev pub position_after : Unix → ℕ
position_after unix = if unix.position + 1 == slot_count * unix.quantum then 0 else unix.position + 1
