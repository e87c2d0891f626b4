use Rattle.std.proofs.Common.{◌≡◌, ◌+◌, [], ◌∷◌, ◌++◌, ◌∙◌}
use Rattle.std.proofs.lemmas.List.Elements.{All-push}
use Rattle.kn_text.specs.Lines.{pending, lines_begun}
use Rattle.plan.specs.Plans.{IsInside}
use Rattle.plan.proofs.Reading.{so-far-more, first-more, memory-out, read-whole, read-fails}
use Rattle.plan.proofs.streams.read_plan.Goals as goal

pub reading-preserved : goal.reading-preserved
reading-preserved g c =
    let more = so-far-more (g.S.Source.left c.args.from.now) (g.S.Source.left c.reading.from) (g.S.Source.left c.next_span.new.from) (pending c.reading.reader) c.reading.spans.items (lines_begun c.reading.reader) c.in-Ok-Some.span c.reading.invariant.so_far c.reading.invariant.pending (rw c.in-Ok-Some.field-0-is at c.in-Ok-Some.ensures.taken) in
    let line : lines_begun c.next_span.new.reader ≡ lines_begun c.reading.reader + 1 = rw c.in-Ok-Some.field-0-is at c.in-Ok-Some.ensures.line in
    let first = first-more (g.S.Source.left c.args.from.now) (g.S.Source.left c.reading.from) (g.S.Source.left c.next_span.new.from) (pending c.reading.reader) (lines_begun c.reading.reader) c.in-Ok-Some.span c.reading.invariant.first c.reading.invariant.pending (rw c.in-Ok-Some.field-0-is at c.in-Ok-Some.ensures.taken) in
    let items : c.push.new.self.items ≡ c.reading.spans.items ++ c.in-Ok-Some.span ∷ [] = c.in-Ok.ensures.items in
    record {
      so_far = rw (line, items) more;
      first = rw line first;
      inside = rw items (All-push IsInside c.reading.spans.items c.in-Ok-Some.span c.reading.invariant.inside (rw c.in-Ok-Some.field-0-is at c.in-Ok-Some.ensures.inside));
      pending = c.in-Ok-Some.ensures.pending;
      few = rw c.in-Ok-Some.field-0-is at c.in-Ok-Some.ensures.few;
      same = c.in-Ok-Some.ensures.same ∙ c.reading.invariant.same;
    }

pub returns-in-Ok-None-clause-taken : goal.returns-in-Ok-None-clause-taken
returns-in-Ok-None-clause-taken g c =
    read-whole (g.S.Source.left c.args.from.now) (g.S.Source.left c.reading.from) (g.S.Source.left c.next_span.new.from) (pending c.reading.reader) c.reading.spans.items (lines_begun c.reading.reader) c.reading.invariant.so_far c.reading.invariant.pending (rw c.in-Ok-None.field-0-is at c.in-Ok-None.ensures.taken)

pub returns-in-Err-clause-fault : goal.returns-in-Err-clause-fault
returns-in-Err-clause-fault g c =
    read-fails (g.S.Source.left c.args.from.now) (g.S.Source.left c.reading.from) (pending c.reading.reader) c.reading.spans.items (lines_begun c.reading.reader) c.in-Err.fault c.reading.invariant.so_far c.reading.invariant.pending c.in-Err.ensures.at_line c.in-Err.ensures.fault

pub returns-in-Err-push-clause-fault : goal.returns-in-Err-push-clause-fault
returns-in-Err-push-clause-fault g c =
    memory-out (g.S.Source.left c.args.from.now) (g.S.Source.left c.reading.from) (g.S.Source.left c.next_span.new.from) (pending c.reading.reader) (lines_begun c.reading.reader) c.in-Ok-Some.span c.reading.invariant.first c.reading.invariant.pending (rw c.in-Ok-Some.field-0-is at c.in-Ok-Some.ensures.taken)
