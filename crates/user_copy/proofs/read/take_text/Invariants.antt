use Rattle.std.proofs.Common.{◌≡◌, ◌+◌, ◌-◌, Some}
use Rattle.arrayvec.specs.ArrayVec.{array_vec_len}
use Rattle.kernel_tables.specs.Kernel.{kernel_of}
use Rattle.unix_model.specs.Memory.{bytes_at}
use Rattle.unix_model.specs.Enter.{text_at}
use Rattle.unix_model.specs.declared.calls.Errno.{Errno}
use Rattle.user_copy.specs.SpaceMemory.{space_memory}
use Rattle.user_copy.proofs.Texts.{text_behind}
use Rattle.user_copy.proofs.read.take_text.Given as goal

-- the text is what was read, and what is read from here on; and the bytes so far are those of the memory
abbrev pub invariant-loop-i : goal.invariant-loop-i
invariant-loop-i g l =
    record {
      number : array_vec_len l.into ≡ l.i;
      so_far : (too_long : Errno) → text_at (space_memory (kernel_of (g.T.Store.memory l.store)) l.space.0.0) too_long 256 l.at
          ≡ text_behind l.into.items (text_at (space_memory (kernel_of (g.T.Store.memory l.store)) l.space.0.0) too_long (256 - l.i) (l.at + l.i));
      held : bytes_at (space_memory (kernel_of (g.T.Store.memory l.store)) l.space.0.0) l.at l.i ≡ Some l.into.items;
    }
