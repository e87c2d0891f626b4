-- The strings of a program, and the stack on which they stand at its start.
use Rattle.std.specs.Prelude.{◌≡◌, ◌≢◌, ◌/◌, ◌+◌, ◌≤◌, ℕ, true, List, length, All}
use Rattle.kernel_tables.specs.Kernel.{Kernel}
use Rattle.unix_model.specs.Loading.{in_stack, stack_bytes, stack_pointer, string_bytes}
use Rattle.unix_model.specs.Memory.{Memory, is_writable}
use Rattle.kernel_forest.specs.Trees.{forest_of}
use Rattle.user_copy.specs.Writing.{NotOwn, pages_touched}

-- Bytes are so many strings, each with a NUL after it and none in it.
pub record AreStrings (bytes : List ℕ) (count : ℕ) (strings : List (List ℕ)) : Type 0 where
  pub bytes_are : bytes ≡ string_bytes strings
  pub number : length strings ≡ count
  pub no_nul : All (All (λ byte. byte ≢ 0)) strings

-- each byte of the stack is mapped and may be written
abbrev pub IsStackWritable : Memory → Type 0
IsStackWritable memory = (address : ℕ) → in_stack (address / 4096) ≡ true → is_writable memory address ≡ true

-- there are as many free pages as pages that the start of the stack touches and that aren't own when they are come to in order
abbrev pub HasStackPages : Kernel → (space : ℕ) → (strings : List (List ℕ)) → Type 0
HasStackPages kernel space strings =
    (taken : ℕ) → NotOwn (forest_of kernel) space (stack_pointer strings / 4096) (pages_touched (stack_pointer strings) (length (stack_bytes strings))) taken
    → kernel.machine.pages_taken + taken ≤ kernel.size
