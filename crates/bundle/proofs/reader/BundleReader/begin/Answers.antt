use Rattle.std.proofs.Common.{sym, ◌∙◌}
use Rattle.bundle.specs.Lines.{lines_begun}
use Rattle.bundle.specs.Views.{pending, place_of}
use Rattle.bundle.proofs.BeginLaws.{begun-before, begins-now, begins-other, begins-wrong}
use Rattle.bundle.proofs.reader.BundleReader.begin.Goals as goal

pub returns-then-line-ne0-clause-begun : goal.returns-then-line-ne0-clause-begun
returns-then-line-ne0-clause-begun g c =
    begun-before (place_of c.args.self.now) (pending c.args.self.now) (g.S.Source.left c.args.from.now) (λ none. c.if-line-ne0.true (c.line.ensures ∙ none))

pub returns-in-Err-clause-fault : goal.returns-in-Err-clause-fault
returns-in-Err-clause-fault g c =
    begins-wrong (place_of c.args.self.now) (pending c.args.self.now) (g.S.Source.left c.args.from.now) c.in-Err.fault (sym c.line.ensures ∙ c.if-line-ne0.false) c.in-Err.ensures.fault

pub returns-then-eq-clause-begun : goal.returns-then-eq-clause-begun
returns-then-eq-clause-begun g c =
    begins-now (place_of c.args.self.now) (pending c.args.self.now) c.read_line.new.into (pending (record { lines = c.read_line.new.lines; line = c.read_line.new.into; room = c.args.self.now.room; known = c.args.self.now.known })) (lines_begun c.read_line.new.lines) (g.S.Source.left c.args.from.now) (g.S.Source.left c.read_line.new.from)
    (sym c.line.ensures ∙ c.if-line-ne0.false) c.in-Ok.ensures.taken (rw c.as_slice.ensures at c.if-eq.ensures) c.in-Ok.ensures.line c.in-Ok.ensures.pending

pub returns-else-eq-clause-fault : goal.returns-else-eq-clause-fault
returns-else-eq-clause-fault g c =
    begins-other (place_of c.args.self.now) (pending c.args.self.now) c.read_line.new.into (lines_begun c.read_line.new.lines) (g.S.Source.left c.args.from.now) (g.S.Source.left c.read_line.new.from) c.refused.result
    (sym c.line.ensures ∙ c.if-line-ne0.false) c.in-Ok.ensures.taken (rw c.as_slice.ensures at c.if-eq.ensures) c.in-Ok.ensures.line c.refused.ensures
