use Rattle.std.proofs.Common.{◌+◌, ◌++◌}
use Rattle.kn_text.specs.Lines.{pending, lines_begun}
use Rattle.plan.proofs.Reading.{too-long, is-end}
use Rattle.plan.proofs.streams.next_span.Goals as goal

pub returns-in-Ok-false-clause-taken : goal.returns-in-Ok-false-clause-taken
returns-in-Ok-false-clause-taken g c = λ bytes told.
    is-end (pending c.args.reader.now ++ bytes) c.next_line.new.into.items (g.S.Source.left c.next_line.new.from) ((rw c.in-Ok-false.field-0-test at c.in-Ok-false.ensures.taken) bytes told)

pub returns-in-Err-TooLong-clause-fault : goal.returns-in-Err-TooLong-clause-fault
returns-in-Err-TooLong-clause-fault g c = λ bytes told.
    rw c.refused-in-Err-TooLong.ensures (too-long (lines_begun c.args.reader.now + 1) (pending c.args.reader.now ++ bytes) c.next_line.new.into.items (g.S.Source.left c.next_line.new.from) ((rw c.in-Err-TooLong.field-0-is at c.in-Err-TooLong.ensures.fault) bytes told))
