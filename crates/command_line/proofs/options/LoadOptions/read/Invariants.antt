use Rattle.std.proofs.Common.{◌≡◌, Some, drop}
use Rattle.std.specs.Prelude.{map, string_bytes}
use Rattle.command_line.specs.Words.{load_options_of, no_load_options}
use Rattle.command_line.specs.WordsView.{load_options_view}
use Rattle.command_line.proofs.options.LoadOptions.read.Given as goal

abbrev pub invariant-loop-word : goal.invariant-loop-word
invariant-loop-word l = load_options_of (map string_bytes l.words) (Some no_load_options) ≡ load_options_of (map string_bytes (drop l.word-index l.words)) (Some (load_options_view l.options))
