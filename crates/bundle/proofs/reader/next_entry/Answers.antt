use Rattle.std.proofs.Common.{◌∙◌}
use Rattle.bundle.specs.Lines.{lines_begun}
use Rattle.bundle.specs.Keys.{known_of}
use Rattle.bundle.specs.Views.{named_view, pending, place_of}
use Rattle.bundle.proofs.EntryLaws.{begin-fails, line-fails, line-says-nothing, bundle-ends, make-fails, entry-comes}
use Rattle.bundle.proofs.reader.next_entry.Goals as goal

pub returns-in-Err-clause-fault : goal.returns-in-Err-clause-fault
returns-in-Err-clause-fault g c = begin-fails (place_of c.args.reader.now) (pending c.args.reader.now) (g.S.Source.left c.args.from.now) c.in-Err.fault c.in-Err.ensures.fault

pub returns-in-Err-read_line-clause-fault : goal.returns-in-Err-read_line-clause-fault
returns-in-Err-read_line-clause-fault g c =
    line-fails (place_of c.args.reader.now) (place_of c.begin.new.self) (pending c.args.reader.now) (pending c.begin.new.self) (g.S.Source.left c.args.from.now) (g.S.Source.left c.begin.new.from) c.in-Err-read_line.fault
    c.in-Ok.ensures.begun c.in-Err-read_line.ensures.fault

pub returns-in-Ok-None-clause-taken : goal.returns-in-Ok-None-clause-taken
returns-in-Ok-None-clause-taken g c =
    bundle-ends (place_of c.args.reader.now) (place_of c.begin.new.self) (lines_begun c.read_line.new.lines) (pending c.args.reader.now) (pending c.begin.new.self) c.read_line.new.into (g.S.Source.left c.args.from.now) (g.S.Source.left c.begin.new.from) (g.S.Source.left c.read_line.new.from)
    c.in-Ok.ensures.begun c.in-Ok-read_line.ensures.taken c.in-Ok-read_line.ensures.line (rw c.in-Ok-None.field-0-is at c.in-Ok-None.ensures.says)

pub returns-in-Err-accepted-clause-fault : goal.returns-in-Err-accepted-clause-fault
returns-in-Err-accepted-clause-fault g c =
    line-says-nothing (place_of c.args.reader.now) (place_of c.begin.new.self) (lines_begun c.read_line.new.lines) (pending c.args.reader.now) (pending c.begin.new.self) c.read_line.new.into (g.S.Source.left c.args.from.now) (g.S.Source.left c.begin.new.from) (g.S.Source.left c.read_line.new.from) c.in-Err-accepted.fault
    c.in-Ok.ensures.begun c.in-Ok-read_line.ensures.taken c.in-Ok-read_line.ensures.line c.in-Err-accepted.ensures.nothing

pub returns-in-Ok-entry_of-clause-taken : goal.returns-in-Ok-entry_of-clause-taken
returns-in-Ok-entry_of-clause-taken g c =
    entry-comes (place_of c.args.reader.now) (place_of c.begin.new.self) (place_of c.entry_of.new.self) (lines_begun c.read_line.new.lines) (named_view c.in-Ok-Some.named) c.in-Ok-entry_of.entry (pending c.args.reader.now) (pending c.begin.new.self) c.read_line.new.into
    (g.S.Source.left c.args.from.now) (g.S.Source.left c.begin.new.from) (g.S.Source.left c.read_line.new.from) (g.S.Source.left c.entry_of.new.from)
    c.in-Ok.ensures.begun c.in-Ok-read_line.ensures.taken c.in-Ok-read_line.ensures.line (rw c.in-Ok-Some.field-0-is at c.in-Ok-Some.ensures.says)
    (rw (c.accepted.ensures.same_lines, c.accepted.ensures.same_room) at (c.in-Ok-entry_of.ensures.given (known_of c.begin.new.self.known.paths) (rw c.in-Ok-Some.field-0-is at c.in-Ok-Some.ensures.known)))
    c.in-Ok.ensures.room (c.in-Ok-entry_of.ensures.room_left ∙ c.accepted.ensures.same_room)

pub returns-in-Err-entry_of-clause-fault : goal.returns-in-Err-entry_of-clause-fault
returns-in-Err-entry_of-clause-fault g c =
    make-fails (place_of c.args.reader.now) (place_of c.begin.new.self) (lines_begun c.read_line.new.lines) (named_view c.in-Ok-Some.named) (pending c.args.reader.now) (pending c.begin.new.self) c.read_line.new.into
    (g.S.Source.left c.args.from.now) (g.S.Source.left c.begin.new.from) (g.S.Source.left c.read_line.new.from) c.in-Err-entry_of.fault
    c.in-Ok.ensures.begun c.in-Ok-read_line.ensures.taken c.in-Ok-read_line.ensures.line (rw c.in-Ok-Some.field-0-is at c.in-Ok-Some.ensures.says) (rw c.accepted.ensures.same_lines at c.in-Err-entry_of.ensures.fault)
