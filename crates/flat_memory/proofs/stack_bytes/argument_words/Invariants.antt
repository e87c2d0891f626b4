use Rattle.std.proofs.Common.{◌≡◌, ◌++◌, ◌+◌, ◌^◌, drop, length}
use Rattle.std.specs.Int.{to_le_bytes, w32}
use Rattle.unix_model.specs.Loading.{address_words, string_bytes}
use Rattle.flat_memory.specs.StringsView.{strings_of}
use Rattle.flat_memory.proofs.stack_bytes.argument_words.Given as goal

-- so far, and the rest
abbrev pub invariant-loop-string : goal.invariant-loop-string
invariant-loop-string l = record {
  words : l.bytes.items ++ address_words l.address (strings_of (drop l.string-index l.strings)) ≡ to_le_bytes w32 (length l.strings) ++ address_words l.start (strings_of l.strings);
  left : l.address + length (string_bytes (strings_of (drop l.string-index l.strings))) ≡ 2 ^ 31;
}
