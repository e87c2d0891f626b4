use Rattle.std.proofs.Common.{◌≡◌, ◌≤◌, ◌+◌, [], ◌∷◌, ◌++◌, length, length-append, slice_set, take, ap, arith}
use Rattle.std.proofs.lemmas.List.{length-take-le, take_more_set}
use Rattle.kn_text.specs.Lines.{ahead}
use Rattle.kn_text.proofs.Reading.{line-ended, line-last, line-too_long}
use Rattle.bundle.proofs.line.read_bytes.Goals as goal

pub returns-then-end-ge-MOST_LINE_BYTES-clause-fault : goal.returns-then-end-ge-MOST_LINE_BYTES-clause-fault
returns-then-end-ge-MOST_LINE_BYTES-clause-fault g c = λ bytes told.
    let count : length (take c.reading.end c.reading.bytes) ≡ c.reading.end = length-take-le c.reading.end c.reading.bytes (omega (arith, c.reading.invariant.short, c.reading.invariant.whole)) in
    let full : length (take c.reading.end c.reading.bytes) ≡ 1024 = omega (arith, count, c.reading.invariant.short, c.if-end-ge-MOST_LINE_BYTES.true) in
    (line-too_long (ahead (c.args.first ∷ []) (g.S.Source.left c.args.from.now)) (g.S.Source.left c.reading.from) (take c.reading.end c.reading.bytes) c.reading.byte c.reading.invariant.so_far c.reading-test.true c.reading.invariant.unbroken full
    (c.args.first ∷ bytes) (ap (ahead (c.args.first ∷ [])) told)).long

pub returns-in-Ok-None-clause-taken : goal.returns-in-Ok-None-clause-taken
returns-in-Ok-None-clause-taken g c = λ bytes told.
    let count : length (take c.reading.end c.reading.bytes) ≡ c.reading.end = length-take-le c.reading.end c.reading.bytes (omega (arith, c.reading.invariant.short, c.reading.invariant.whole)) in
    let more : take (c.reading.end + 1) (slice_set c.reading.bytes c.reading.end c.reading.byte) ≡ take c.reading.end c.reading.bytes ++ c.reading.byte ∷ [] =
    take_more_set c.reading.bytes c.reading.end c.reading.byte (omega (arith, c.reading.invariant.whole, c.if-end-ge-MOST_LINE_BYTES.false)) in
    let short : length (take (c.reading.end + 1) (slice_set c.reading.bytes c.reading.end c.reading.byte)) ≤ 1024 =
    omega (arith, ap length more, length-append (take c.reading.end c.reading.bytes) (c.reading.byte ∷ []), count, c.if-end-ge-MOST_LINE_BYTES.false) in
    line-last (ahead (c.args.first ∷ []) (g.S.Source.left c.args.from.now)) (g.S.Source.left c.reading.from) (g.S.Source.left c.next.new.self) (take c.reading.end c.reading.bytes)
    (take (c.reading.end + 1) (slice_set c.reading.bytes c.reading.end c.reading.byte)) c.reading.byte c.reading.invariant.so_far (rw c.in-Ok-None.field-0-is at c.in-Ok-None.ensures.gives) more c.reading-test.true c.reading.invariant.unbroken short
    (c.args.first ∷ bytes) (ap (ahead (c.args.first ∷ [])) told)

pub returns-clause-taken : goal.returns-clause-taken
returns-clause-taken g c = λ bytes told.
    let count : length (take c.reading.end c.reading.bytes) ≡ c.reading.end = length-take-le c.reading.end c.reading.bytes (omega (arith, c.reading.invariant.short, c.reading.invariant.whole)) in
    let short : length (take c.reading.end c.reading.bytes) ≤ 1024 = omega (arith, count, c.reading.invariant.short) in
    line-ended (ahead (c.args.first ∷ []) (g.S.Source.left c.args.from.now)) (g.S.Source.left c.reading.from) (take c.reading.end c.reading.bytes) c.reading.byte c.reading.invariant.so_far c.reading-test.false c.reading.invariant.unbroken short
    (c.args.first ∷ bytes) (ap (ahead (c.args.first ∷ [])) told)
