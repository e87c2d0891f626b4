use Rattle.std.proofs.Common.{◌≡◌, ◌+◌, ◌-◌, ◌*◌, length}
use Rattle.unix_model.specs.Enter.{strings_at}
use Rattle.flat_memory.specs.MemoryView.{memory_of}
use Rattle.flat_enter.specs.Enters.{before}
use Rattle.flat_enter.proofs.strings.strings.Given as goal

-- so far, and the rest
abbrev pub invariant-loop-i : goal.invariant-loop-i
invariant-loop-i l = record {
  strings : strings_at (memory_of l.memory) 16 l.room l.address ≡ before l.bytes.items (strings_at (memory_of l.memory) (16 - l.i) l.left (l.address + 4 * l.i));
  room : length l.bytes.items + l.left ≡ l.room;
}
