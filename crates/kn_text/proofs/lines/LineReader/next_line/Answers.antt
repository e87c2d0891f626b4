use Rattle.kn_text.specs.Lines.{IsFirstLine, pending}
use Rattle.kn_text.proofs.Reading.{after-first, no-line}
use Rattle.kn_text.proofs.lines.LineReader.next_line.Goals as goal

pub returns-in-Ok-clause-taken : goal.returns-in-Ok-clause-taken
returns-in-Ok-clause-taken g c =
    after-first (pending c.args.self.now) (g.S.Source.left c.args.from.now) (g.S.Source.left c.next_byte.new.from) c.in-Ok-Some.first (λ bytes. IsFirstLine bytes c.read_from.new.into.items (g.S.Source.left c.read_from.new.from)) (rw c.in-Ok-Some.field-0-is at c.in-Ok-Some.ensures.gives) c.in-Ok.ensures.taken

pub returns-in-Ok-None-clause-taken : goal.returns-in-Ok-None-clause-taken
returns-in-Ok-None-clause-taken g c =
    no-line (pending c.args.self.now) (g.S.Source.left c.args.from.now) (g.S.Source.left c.next_byte.new.from) c.clear.new.self.items (rw c.in-Ok-None.field-0-is at c.in-Ok-None.ensures.gives) c.clear.ensures
