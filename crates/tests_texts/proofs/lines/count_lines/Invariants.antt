use Rattle.std.proofs.Common.{◌≡◌, ℕ, ◌+◌, ◌-◌, List, [], length}
use Rattle.std.specs.Prelude.{Some}
use Rattle.unix_model.specs.Texts.{lines_of}
use Rattle.kn_text.specs.Lines.{pending, lines_begun}
use Rattle.tests_texts.proofs.lines.count_lines.Given as goal

abbrev pub invariant-lines : goal.invariant-lines
invariant-lines g l = record {
  nothing_pending : pending l.reader ≡ [];
  so_far : (bytes : List ℕ) → g.S.Source.left l.fn.from ≡ Some bytes → (rest : List ℕ) × (g.S.Source.left l.from ≡ Some rest) × (length (lines_of bytes) ≡ lines_begun l.reader + length (lines_of rest));
}

abbrev pub decreases-lines : goal.decreases-lines
decreases-lines g l = 100 - lines_begun l.reader
