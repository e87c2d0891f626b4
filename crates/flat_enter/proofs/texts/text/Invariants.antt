use Rattle.std.proofs.Common.{◌≡◌, ◌+◌, ◌-◌, length}
use Rattle.unix_model.specs.Enter.{text_at}
use Rattle.flat_memory.specs.MemoryView.{memory_of}
use Rattle.flat_enter.specs.Enters.{before}
use Rattle.flat_enter.proofs.texts.text.Given as goal

-- so far, and the rest
abbrev pub invariant-loop-i : goal.invariant-loop-i
invariant-loop-i l = record {
  text : text_at (memory_of l.memory) l.too_long l.most l.address ≡ before l.bytes.items (text_at (memory_of l.memory) l.too_long (l.most - l.i) (l.address + l.i));
  len : length l.bytes.items ≡ l.i;
}
