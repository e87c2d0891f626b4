use Rattle.std.proofs.Common.{◌≡◌, ◌≤◌, ◌+◌, ◌++◌, drop, length}
use Rattle.std.specs.List.{slice_split}
use Rattle.unix_model.specs.Effect.{is_nul}
use Rattle.unix_model.specs.Loading.{string_bytes}
use Rattle.flat_memory.specs.StringsView.{strings_of}
use Rattle.flat_texts.proofs.SplitLaws.{after}
use Rattle.flat_texts.proofs.split.split_texts.Given as goal

-- so far, and the rest
abbrev pub invariant-loop-byte : goal.invariant-loop-byte
invariant-loop-byte l = record {
  split : slice_split is_nul l.bytes ≡ strings_of l.texts.items ++ after l.text.items (slice_split is_nul (drop l.byte-index l.bytes));
  few : length (string_bytes (strings_of l.texts.items)) + length l.text.items ≤ l.byte-index;
}
