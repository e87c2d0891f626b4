use Rattle.std.proofs.Common.{◌-◌, ap, ◌∙◌, arith}
use Rattle.bundle.specs.Lines.{lines_begun}
use Rattle.bundle.specs.EntryLines.{makes_directory}
use Rattle.bundle.specs.Views.{place_of, what_view}
use Rattle.bundle.specs.Paths.{with_path}
use Rattle.bundle.proofs.BeginLaws.{kind-is, stands-behind}
use Rattle.bundle.proofs.reader.BundleReader.entry_of.Goals as goal

pub returns-clause-given : goal.returns-clause-given
returns-clause-given g c = λ known knows bytes told.
    let m = c.in-Ok.ensures.made bytes told in
    let kind = kind-is m.0.content c.in-Ok.file (makes_directory (what_view c.args.named.what)) m.3 c.in-Ok.ensures.kind in (
      m.0,
      m.1,
      m.2,
      rw c.line-line.ensures at (c.entry.ensures m.0.content m.3),
      stands-behind (record { line = lines_begun c.args.self.now.lines; room = c.args.self.now.room; known = known })
          (place_of (record { lines = c.content.new.lines; line = c.content.new.into; room = c.args.self.now.room - 1; known = c.args.self.now.known })) c.args.named.path m.0 m.4 (omega (arith, c.requires.room))
          (knows ∙ ap (λ test. with_path known c.args.named.path test) kind),
    )
