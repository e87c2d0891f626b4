use Rattle.std.proofs.Common.{◌≡◌, Some, drop}
use Rattle.std.specs.Prelude.{map, string_bytes}
use Rattle.command_line.specs.Words.{options_of, no_options}
use Rattle.command_line.specs.WordsView.{options_view}
use Rattle.command_line.proofs.words.read_options.Given as goal

abbrev pub invariant-loop-word : goal.invariant-loop-word
invariant-loop-word l = options_of (map string_bytes l.words) (Some no_options) ≡ options_of (map string_bytes (drop l.word-index l.words)) (Some (options_view l.options))
