-- A disk in memory: what it is made of, what its calls make of it, and the members of the trait.
use Rattle.std.specs.Prelude.{◌≤◌, ◌+◌, ℕ, Option, Bool, true, false, not, ◌||◌, ◌&&◌, nat_le, List, [], ◌∷◌, length}
use Rattle.std.proofs.Common.{sym, subst}
use Rattle.kn_io.specs.Calls.{Calls, no_calls, after_call}
use Rattle.kn_disk.specs.Steps.{Step, Written, Cut, Synced, IsImage, Since}
use Rattle.kn_disk.specs.StepLaws.{counts_now, only_now, contents_are_image}
use Rattle.kn_disk.specs.History.{kept_steps, taken_of, size_of}
use Rattle.kn_disk.specs.Calls.{fails_now, counted_calls, stop_of}
use Rattle.kn_disk.specs.declared.memory_disk.MemoryDisk.{MemoryDisk}

-- Its bytes at first, what was done to them, the newest first, how long it may become, how many bytes of its history are
-- taken and how many it has, its calls so far, and the number from which on each call fails.
pub record Tape : Type 0 where
  pub first : List ℕ
  pub steps : List Step
  pub room : ℕ
  pub taken : ℕ
  pub history : ℕ
  pub calls : Calls
  pub stop : Option ℕ

abbrev pub tape_of : MemoryDisk → Tape
tape_of d = record {
  first = d.first.items;
  steps = kept_steps d.history;
  room = d.room;
  taken = taken_of d.history;
  history = size_of d.history;
  calls = counted_calls d.calls;
  stop = stop_of d.calls;
}

-- what a read gives
abbrev pub disk_bytes : MemoryDisk → List ℕ
disk_bytes d = d.bytes.items

-- before the first call
abbrev pub new_tape : ℕ → ℕ → List ℕ → List ℕ → Option ℕ → Tape
new_tape room history first fails stop = record {
  first = first;
  steps = [];
  room = room;
  taken = 0;
  history = history;
  calls = no_calls fails;
  stop = stop;
}

-- how many bytes of the history a step takes
abbrev pub record_size : Step → ℕ
record_size (Written at part) = 16 + length part
record_size (Cut n) = 16
record_size Synced = 16

-- the history has room for a step, and the disk for its new length
abbrev pub has_room : Tape → Step → Bool
has_room tape (Written at part) = nat_le (tape.taken + 16 + length part) tape.history
has_room tape (Cut n) = nat_le n tape.room && nat_le (tape.taken + 16) tape.history
has_room tape Synced = nat_le (tape.taken + 16) tape.history

-- after a call that reads, or that failed
abbrev pub called : Tape → Bool → Tape
called tape failed = record tape { calls = after_call tape.calls failed }

-- after a call that made a step, or failed
abbrev pub stepped_tape : Tape → Step → Bool → Tape
stepped_tape tape step true = called tape true
stepped_tape tape step false = record tape {
  steps = step ∷ tape.steps;
  taken = tape.taken + record_size step;
  calls = after_call tape.calls false;
}

-- the call that makes this step fails
abbrev pub refuses : Tape → Step → Bool
refuses tape step = fails_now tape.calls tape.stop || not (has_room tape step)

-- the members of the trait
abbrev pub disk_moment : MemoryDisk → ℕ
disk_moment d = length (kept_steps d.history)

abbrev pub disk_image : MemoryDisk → List ℕ → Type 0
disk_image d = IsImage d.first.items (kept_steps d.history)

abbrev pub disk_since : MemoryDisk → ℕ → List ℕ → Type 0
disk_since d = Since d.first.items (kept_steps d.history)

abbrev pub disk_faults : MemoryDisk → ℕ
disk_faults d = (counted_calls d.calls).faults

pub disk-contents_image : (d : MemoryDisk) → Unit {0} → disk_image d (disk_bytes d)
disk-contents_image d told = subst (disk_image d) (sym d.held) (contents_are_image d.first.items (kept_steps d.history))

pub disk-counts_now : (d : MemoryDisk) (t : ℕ) (c : List ℕ) → t ≤ disk_moment d → disk_image d c → disk_since d t c
disk-counts_now d t c le now = counts_now d.first.items (kept_steps d.history) t c now

pub disk-only_now : (d : MemoryDisk) (c : List ℕ) → disk_since d (disk_moment d) c → disk_image d c
disk-only_now d c left = only_now d.first.items (kept_steps d.history) c left
