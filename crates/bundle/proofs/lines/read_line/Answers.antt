use Rattle.std.proofs.Common.{◌≡◌, ◌+◌, List, ℕ, [], ◌∷◌, ◌++◌, Some, Ok, Err, refl, ap}
use Rattle.kn_text.proofs.Reading.{after-first, no-line}
use Rattle.bundle.specs.declared.fault.BundleKind.TheVariants.{TooLong}
use Rattle.bundle.specs.Lines.{pending}
use Rattle.bundle.specs.Outcomes.{next_line}
use Rattle.bundle.proofs.LineLaws.{line-read, line-missing, line-long}
use Rattle.bundle.proofs.lines.read_line.Goals as goal

pub returns-in-Ok-clause-taken : goal.returns-in-Ok-clause-taken
returns-in-Ok-clause-taken g c =
    after-first (pending c.args.lines.now) (g.S.Source.left c.args.from.now) (g.S.Source.left c.next_byte.new.from) c.in-Ok-Some.first
    (λ bytes. (rest : List ℕ) × (g.S.Source.left c.read_behind.new.from ≡ Some rest) × (next_line bytes ≡ Ok (record { line = c.read_behind.new.self; rest = rest })))
    (rw c.in-Ok-Some.field-0-is at c.in-Ok-Some.ensures.gives)
    (λ bytes told. line-read (c.in-Ok-Some.first ∷ bytes) c.read_behind.new.self (g.S.Source.left c.read_behind.new.from) (c.in-Ok.ensures.taken bytes told))

pub returns-in-Err-TooLong-clause-fault : goal.returns-in-Err-TooLong-clause-fault
returns-in-Err-TooLong-clause-fault g c = λ bytes told.
    let long : next_line (pending c.args.lines.now ++ bytes) ≡ Err TooLong =
    after-first (pending c.args.lines.now) (g.S.Source.left c.args.from.now) (g.S.Source.left c.next_byte.new.from) c.in-Ok-Some.first (λ bytes. next_line bytes ≡ Err TooLong)
    (rw c.in-Ok-Some.field-0-is at c.in-Ok-Some.ensures.gives)
    (λ bytes told. line-long (c.in-Ok-Some.first ∷ bytes) ((rw c.in-Err-TooLong.field-0-is at c.in-Err-TooLong.ensures.fault) bytes told)) bytes told in
    rw c.too_long.ensures (long, ap (λ n. n + 1) c.next_byte.ensures.line)

pub returns-in-Ok-None-clause-fault : goal.returns-in-Ok-None-clause-fault
returns-in-Ok-None-clause-fault g c = λ bytes told.
    rw c.missing.ensures (
      line-missing (pending c.args.lines.now ++ bytes) [] (g.S.Source.left c.next_byte.new.from)
          (no-line (pending c.args.lines.now) (g.S.Source.left c.args.from.now) (g.S.Source.left c.next_byte.new.from) [] (rw c.in-Ok-None.field-0-is at c.in-Ok-None.ensures.gives) refl bytes told),
      ap (λ n. n + 1) c.next_byte.ensures.line,
    )
