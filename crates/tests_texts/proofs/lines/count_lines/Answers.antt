use Rattle.std.proofs.Common.{◌≡◌, ◌+◌, ◌∷◌, length, ap, arith}
use Rattle.unix_model.specs.Texts.{line_rest, lines_of}
use Rattle.kn_text.specs.Lines.{IsFirstLine, IsNoLine, lines_begun}
use Rattle.tests_texts.proofs.lines.count_lines.Goals as goal

pub lines-preserved : goal.lines-preserved
lines-preserved g c = record {
  nothing_pending = c.in-Ok-true.ensures.pending;
  so_far = λ bytes told.
      let so_far = c.lines.invariant.so_far bytes told in
      let taken = rw (c.lines.invariant.nothing_pending, c.in-Ok-true.field-0-test) at c.in-Ok-true.ensures.taken in
      let first : IsFirstLine so_far.0 c.next_line.new.into.items (g.S.Source.left c.next_line.new.from) = taken so_far.0 so_far.1 in
      let more : length (lines_of so_far.0) ≡ length (c.next_line.new.into.items ∷ lines_of (line_rest so_far.0)) = ap length first.lines in
      let counted : lines_begun c.next_line.new.self ≡ lines_begun c.lines.reader + 1 = rw c.in-Ok-true.field-0-test at c.in-Ok-true.ensures.line in
      (line_rest so_far.0, first.left_is, omega (arith, so_far.2, more, counted));
}

pub returns-in-Ok-false : goal.returns-in-Ok-false
returns-in-Ok-false g c = λ bytes told.
    let so_far = c.lines.invariant.so_far bytes told in
    let taken = rw (c.lines.invariant.nothing_pending, c.in-Ok-false.field-0-test) at c.in-Ok-false.ensures.taken in
    let none : IsNoLine so_far.0 c.next_line.new.into.items (g.S.Source.left c.next_line.new.from) = taken so_far.0 so_far.1 in
    let no_more = ap length none.lines in
    let counted : lines_begun c.next_line.new.self ≡ lines_begun c.lines.reader + 0 = rw c.in-Ok-false.field-0-test at c.in-Ok-false.ensures.line in
    omega (arith, so_far.2, no_more, counted, c.line-in-Ok-false.ensures)
