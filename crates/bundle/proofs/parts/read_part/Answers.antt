use Rattle.std.proofs.Common.{◌∙◌, arith}
use Rattle.bundle.specs.Lines.{pending, lines_begun}
use Rattle.bundle.proofs.PartLaws.{read-more, read-bad, read-wrong, read-whole}
use Rattle.bundle.proofs.parts.read_part.Goals as goal

pub returns-in-Err-At-clause-taken : goal.returns-in-Err-At-clause-taken
returns-in-Err-At-clause-taken g c = λ bytes told.
    rw c.in-Err-At.field-0-is (read-wrong c.args.form c.args.count c.reading.done (lines_begun c.args.lines.now) (lines_begun c.reading.lines) c.in-Err-At.line c.in-Err-At.kind (g.S.Source.left c.args.from.now) (g.S.Source.left c.reading.from) c.reading.bytes.items (pending c.reading.lines)
    c.reading.invariant.so_far c.reading.invariant.pending (omega (arith, c.reading-test.true)) (rw c.in-Err-At.field-0-is at c.in-Err-At.ensures.fault) c.reading.invariant.line bytes told)

pub returns-in-Ok-false-clause-taken : goal.returns-in-Ok-false-clause-taken
returns-in-Ok-false-clause-taken g c = λ bytes told.
    read-bad c.args.form c.args.count c.reading.done (lines_begun c.args.lines.now) c.line.result (g.S.Source.left c.args.from.now) (g.S.Source.left c.reading.from) (g.S.Source.left c.read_line.new.from) c.reading.bytes.items c.add_line.new.bytes.items c.read_line.new.into (pending c.reading.lines) c.in-Ok-false.field-0
    c.reading.invariant.so_far c.reading.invariant.pending (omega (arith, c.reading-test.true)) c.in-Ok.ensures.taken c.in-Ok-false.field-0-test (rw c.as_slice.ensures at c.in-Ok-false.ensures)
    (omega (arith, c.line.ensures, c.in-Ok.ensures.line, c.reading.invariant.line)) bytes told

pub reading-preserved : goal.reading-preserved
reading-preserved g c = record {
  so_far = read-more c.args.form c.args.count c.reading.done (g.S.Source.left c.args.from.now) (g.S.Source.left c.reading.from) (g.S.Source.left c.read_line.new.from) c.reading.bytes.items c.add_line.new.bytes.items c.read_line.new.into (pending c.reading.lines) c.in-Ok-true.field-0
      c.reading.invariant.so_far c.reading.invariant.pending (omega (arith, c.reading-test.true)) c.in-Ok.ensures.taken c.in-Ok-true.field-0-test (rw c.as_slice.ensures at c.in-Ok-true.ensures);
  pending = c.in-Ok.ensures.pending;
  line = omega (arith, c.in-Ok.ensures.line, c.reading.invariant.line);
  few = omega (arith, c.reading-test.true);
  same = c.in-Ok.ensures.same ∙ c.reading.invariant.same;
}

pub returns-clause-taken : goal.returns-clause-taken
returns-clause-taken g c = λ bytes told.
    let whole = read-whole c.args.form c.args.count c.reading.done (g.S.Source.left c.args.from.now) (g.S.Source.left c.reading.from) c.reading.bytes.items c.reading.invariant.so_far c.reading.invariant.few (omega (arith, c.reading-test.false)) bytes told in
    (whole.0, whole.1, whole.2, omega (arith, c.reading.invariant.line, c.reading.invariant.few, c.reading-test.false))
