use Rattle.std.proofs.Common.{◌≡◌, ◌+◌, ◌-◌, ℕ, length, take, slice_set, arith, refl, sym, subst, ◌∙◌}
use Rattle.std.proofs.lemmas.List.{take_more_set, drop-set-lt}
use Rattle.console_domain.proofs.LineLaws.{Begins, line-ends, line-goes, full-taken, full-left, at-end, begun-lost}
use Rattle.console_domain.proofs.lines.read_line.Goals as goal

pub returns-in-Ok-None-clause-line : goal.returns-in-Ok-None-clause-line
returns-in-Ok-None-clause-line g c = λ bytes told.
    let ended = rw c.in-Ok-None.field-0-is at c.in-Ok-None.ensures.gives in
    full-taken (length c.args.into.now) bytes (take c.taking.count c.taking.into) (g.S.Source.left c.taking.input) (g.S.Source.left c.next.new.self) 0 refl
    (at-end (length c.args.into.now) bytes (take c.taking.count c.taking.into) (g.S.Source.left c.taking.input) (g.S.Source.left c.next.new.self) (length c.args.into.now - c.taking.count) (c.taking.invariant.so_far bytes told) ended.0 ended.1)

pub returns-in-Ok-None-clause-left : goal.returns-in-Ok-None-clause-left
returns-in-Ok-None-clause-left g c = λ bytes told.
    let ended = rw c.in-Ok-None.field-0-is at c.in-Ok-None.ensures.gives in
    full-left (length c.args.into.now) bytes (take c.taking.count c.taking.into) (g.S.Source.left c.taking.input) (g.S.Source.left c.next.new.self) 0 refl
    (at-end (length c.args.into.now) bytes (take c.taking.count c.taking.into) (g.S.Source.left c.taking.input) (g.S.Source.left c.next.new.self) (length c.args.into.now - c.taking.count) (c.taking.invariant.so_far bytes told) ended.0 ended.1)

pub returns-in-Err-clause-lost : goal.returns-in-Err-clause-lost
returns-in-Err-clause-lost g c = λ bytes told.
    begun-lost (length c.args.into.now) bytes (g.S.Source.left c.next.new.self) (length c.args.into.now - c.taking.count) c.taking.count c.args.into.now c.taking.into
    (subst (Begins (length c.args.into.now) bytes (take c.taking.count c.taking.into) (length c.args.into.now - c.taking.count)) (sym c.in-Err.ensures.gives) (c.taking.invariant.so_far bytes told))
    (omega (arith, c.taking.invariant.fits, c.taking.auto.into)) (c.taking.invariant.behind c.taking.count (omega arith))

pub returns-then-ended-clause-line : goal.returns-then-ended-clause-line
returns-then-ended-clause-line g c = λ bytes told.
    let takes = rw c.in-Ok-Some.field-0-is at c.in-Ok-Some.ensures.gives in
    full-taken (length c.args.into.now) bytes (take (c.taking.count + 1) (slice_set c.taking.into c.taking.count c.in-Ok-Some.byte)) (g.S.Source.left c.next.new.self) (g.S.Source.left c.next.new.self) 0 refl
    (line-ends (length c.args.into.now) bytes (take c.taking.count c.taking.into) (length c.args.into.now - c.taking.count) c.in-Ok-Some.byte (g.S.Source.left c.taking.input) (g.S.Source.left c.next.new.self) (omega (arith, c.taking-test.true, c.taking.auto.into)) (c.taking.invariant.so_far bytes told) takes
    (take (c.taking.count + 1) (slice_set c.taking.into c.taking.count c.in-Ok-Some.byte)) (take_more_set c.taking.into c.taking.count c.in-Ok-Some.byte c.taking-test.true) c.if-ended.true)

pub returns-then-ended-clause-left : goal.returns-then-ended-clause-left
returns-then-ended-clause-left g c = λ bytes told.
    let takes = rw c.in-Ok-Some.field-0-is at c.in-Ok-Some.ensures.gives in
    full-left (length c.args.into.now) bytes (take (c.taking.count + 1) (slice_set c.taking.into c.taking.count c.in-Ok-Some.byte)) (g.S.Source.left c.next.new.self) (g.S.Source.left c.next.new.self) 0 refl
    (line-ends (length c.args.into.now) bytes (take c.taking.count c.taking.into) (length c.args.into.now - c.taking.count) c.in-Ok-Some.byte (g.S.Source.left c.taking.input) (g.S.Source.left c.next.new.self) (omega (arith, c.taking-test.true, c.taking.auto.into)) (c.taking.invariant.so_far bytes told) takes
    (take (c.taking.count + 1) (slice_set c.taking.into c.taking.count c.in-Ok-Some.byte)) (take_more_set c.taking.into c.taking.count c.in-Ok-Some.byte c.taking-test.true) c.if-ended.true)

pub taking-preserved : goal.taking-preserved
taking-preserved g c =
    let takes = rw c.in-Ok-Some.field-0-is at c.in-Ok-Some.ensures.gives in
    let less : length c.args.into.now - c.taking.count - 1 ≡ length c.args.into.now - (c.taking.count + 1) = omega arith in
    record {
      so_far = λ bytes told. subst (λ (room : ℕ). Begins (length c.args.into.now) bytes (take (c.taking.count + 1) (slice_set c.taking.into c.taking.count c.in-Ok-Some.byte)) room (g.S.Source.left c.next.new.self)) less
          (line-goes (length c.args.into.now) bytes (take c.taking.count c.taking.into) (length c.args.into.now - c.taking.count) c.in-Ok-Some.byte (g.S.Source.left c.taking.input) (g.S.Source.left c.next.new.self) (omega (arith, c.taking-test.true, c.taking.auto.into)) (c.taking.invariant.so_far bytes told) takes
          (take (c.taking.count + 1) (slice_set c.taking.into c.taking.count c.in-Ok-Some.byte)) (take_more_set c.taking.into c.taking.count c.in-Ok-Some.byte c.taking-test.true) c.if-ended.false);
      behind = λ n past. drop-set-lt n c.taking.into c.taking.count c.in-Ok-Some.byte (omega (arith, past)) ∙ c.taking.invariant.behind n (omega (arith, past));
      fits = omega (arith, c.taking-test.true, c.taking.auto.into);
      same = c.in-Ok-Some.ensures.same ∙ c.taking.invariant.same;
    }

pub returns-clause-line : goal.returns-clause-line
returns-clause-line g c = λ bytes told.
    let full : length c.args.into.now - c.taking.count ≡ 0 = omega (arith, c.taking-test.false, c.taking.auto.into) in
    full-taken (length c.args.into.now) bytes (take c.taking.count c.taking.into) (g.S.Source.left c.taking.input) (g.S.Source.left c.taking.input) (length c.args.into.now - c.taking.count) full (c.taking.invariant.so_far bytes told)

pub returns-clause-left : goal.returns-clause-left
returns-clause-left g c = λ bytes told.
    let full : length c.args.into.now - c.taking.count ≡ 0 = omega (arith, c.taking-test.false, c.taking.auto.into) in
    full-left (length c.args.into.now) bytes (take c.taking.count c.taking.into) (g.S.Source.left c.taking.input) (g.S.Source.left c.taking.input) (length c.args.into.now - c.taking.count) full (c.taking.invariant.so_far bytes told)
