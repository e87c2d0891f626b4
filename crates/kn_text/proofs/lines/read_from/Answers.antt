use Rattle.std.proofs.Common.{◌<◌, ◌≤◌, [], ◌∷◌, refl, ap, sym, subst, arith}
use Rattle.arrayvec.specs.ArrayVec.{array_vec_len}
use Rattle.kn_text.specs.Lines.{IsTooLong, ahead}
use Rattle.kn_text.proofs.Reading.{line-ended, line-last, line-too_long}
use Rattle.kn_text.proofs.lines.read_from.Goals as goal

pub returns-in-Err-clause-fault : goal.returns-in-Err-clause-fault
returns-in-Err-clause-fault g c = λ bytes told.
    subst (λ line. IsTooLong (c.args.first ∷ bytes) line.items (g.S.Source.left c.reading.from)) (sym c.in-Err.ensures.err)
    (line-too_long (ahead (c.args.first ∷ []) (g.S.Source.left c.args.from.now)) (g.S.Source.left c.reading.from) c.reading.into.items c.reading.byte c.reading.invariant.so_far c.reading-test.true c.reading.invariant.unbroken c.in-Err.ensures.full (c.args.first ∷ bytes) (ap (ahead (c.args.first ∷ [])) told))

pub returns-in-Ok-None-clause-taken : goal.returns-in-Ok-None-clause-taken
returns-in-Ok-None-clause-taken g c = λ bytes told.
    let room : array_vec_len c.reading.into < 1024 = c.in-Ok.ensures.variant.0 refl in
    let short : array_vec_len c.try_push.new.self ≤ 1024 = omega (arith, room, c.in-Ok.ensures.len) in
    line-last (ahead (c.args.first ∷ []) (g.S.Source.left c.args.from.now)) (g.S.Source.left c.reading.from) (g.S.Source.left c.next.new.self) c.reading.into.items c.try_push.new.self.items c.reading.byte c.reading.invariant.so_far (rw c.in-Ok-None.field-0-is at c.in-Ok-None.ensures.gives) c.in-Ok.ensures.ok c.reading-test.true c.reading.invariant.unbroken short (c.args.first ∷ bytes) (ap (ahead (c.args.first ∷ [])) told)

pub returns-clause-taken : goal.returns-clause-taken
returns-clause-taken g c = λ bytes told.
    line-ended (ahead (c.args.first ∷ []) (g.S.Source.left c.args.from.now)) (g.S.Source.left c.reading.from) c.reading.into.items c.reading.byte c.reading.invariant.so_far c.reading-test.false c.reading.invariant.unbroken c.reading.invariant.short (c.args.first ∷ bytes) (ap (ahead (c.args.first ∷ [])) told)
