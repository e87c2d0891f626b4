use Rattle.std.proofs.Common.{◌≡◌, ◌++◌, drop}
use Rattle.unix_model.specs.Loading.{string_bytes}
use Rattle.flat_memory.specs.StringsView.{strings_of}
use Rattle.flat_memory.proofs.stack_bytes.string_bytes.Given as goal

-- so far, and the rest
abbrev pub invariant-loop-string : goal.invariant-loop-string
invariant-loop-string l = l.bytes.items ++ string_bytes (strings_of (drop l.string-index l.strings)) ≡ string_bytes (strings_of l.strings)
