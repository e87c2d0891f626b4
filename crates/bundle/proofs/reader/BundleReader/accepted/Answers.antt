use Rattle.std.proofs.Common.{sym}
use Rattle.bundle.specs.Lines.{lines_begun}
use Rattle.bundle.specs.Keys.{known_of}
use Rattle.bundle.specs.Views.{said_view}
use Rattle.bundle.proofs.AllowedLaws.{line-accepted}
use Rattle.bundle.proofs.BeginLaws.{differs}
use Rattle.bundle.proofs.reader.BundleReader.accepted.Goals as goal

pub returns-in-Err-NoMemory-clause-nothing : goal.returns-in-Err-NoMemory-clause-nothing
returns-in-Err-NoMemory-clause-nothing c = λ rest. (
  record { said = said_view c.in-Some.told; rest = rest },
  line-accepted c.args.self.now.room (lines_begun c.args.self.now.lines) (known_of c.args.self.now.known.paths) c.args.self.now.line (said_view c.in-Some.told)
      (sym (rw c.as_slice.ensures at c.if-eq.ensures)) (differs c.args.self.now.room c.if-self-eq0.false) (sym (rw c.as_slice-2.ensures at c.in-Some.ensures.says)) (rw c.in-Err-NoMemory.field-0-is at c.in-Err-NoMemory.ensures.allowed) rest,
)

pub returns-in-Err-clause-nothing : goal.returns-in-Err-clause-nothing
returns-in-Err-clause-nothing c = λ rest. (
  record { said = said_view c.in-Some.told; rest = rest },
  line-accepted c.args.self.now.room (lines_begun c.args.self.now.lines) (known_of c.args.self.now.known.paths) c.args.self.now.line (said_view c.in-Some.told)
      (sym (rw c.as_slice.ensures at c.if-eq.ensures)) (differs c.args.self.now.room c.if-self-eq0.false) (sym (rw c.as_slice-2.ensures at c.in-Some.ensures.says)) c.in-Ok.ensures.allowed rest,
)
