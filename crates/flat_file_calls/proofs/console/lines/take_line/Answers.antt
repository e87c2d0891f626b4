use Rattle.std.proofs.Common.{◌≡◌, arith, refl, sym, subst, ◌∙◌}
use Rattle.std.proofs.lemmas.Bool.Decides.{nat_tests}
use Rattle.console_domain.proofs.LineLaws.{Begins, line-ends, line-goes, full-taken, full-left, at-end, begun-front, lost-front}
use Rattle.flat_file_calls.proofs.console.lines.take_line.Goals as goal

pub returns-in-Ok-None-clause-taken : goal.returns-in-Ok-None-clause-taken
returns-in-Ok-None-clause-taken g c = λ bytes told.
    let ended = rw c.in-Ok-None.field-0-is at c.in-Ok-None.ensures.gives in
    full-taken c.args.count bytes c.taking.line.items (g.S.Source.left c.taking.from) (g.S.Source.left c.next.new.self) 0 refl
    (at-end c.args.count bytes c.taking.line.items (g.S.Source.left c.taking.from) (g.S.Source.left c.next.new.self) c.taking.room (c.taking.invariant.so_far bytes told) ended.0 ended.1)

pub returns-in-Ok-None-clause-left : goal.returns-in-Ok-None-clause-left
returns-in-Ok-None-clause-left g c = λ bytes told.
    let ended = rw c.in-Ok-None.field-0-is at c.in-Ok-None.ensures.gives in
    full-left c.args.count bytes c.taking.line.items (g.S.Source.left c.taking.from) (g.S.Source.left c.next.new.self) 0 refl
    (at-end c.args.count bytes c.taking.line.items (g.S.Source.left c.taking.from) (g.S.Source.left c.next.new.self) c.taking.room (c.taking.invariant.so_far bytes told) ended.0 ended.1)

pub returns-in-Err-clause-part : goal.returns-in-Err-clause-part
returns-in-Err-clause-part g c = λ bytes told.
    begun-front c.args.count bytes c.taking.line.items (g.S.Source.left c.next.new.self) (g.S.Source.left c.next.new.self) c.taking.room
    (subst (Begins c.args.count bytes c.taking.line.items c.taking.room) (sym c.in-Err.ensures.gives) (c.taking.invariant.so_far bytes told))

pub returns-in-Err-push-clause-part : goal.returns-in-Err-push-clause-part
returns-in-Err-push-clause-part g c = λ bytes told.
    let takes = rw c.in-Ok-Some.field-0-is at c.in-Ok-Some.ensures.gives in
    lost-front c.args.count bytes c.taking.line.items c.taking.room c.in-Ok-Some.byte (g.S.Source.left c.taking.from) (g.S.Source.left c.next.new.self) c.taking-test.true (c.taking.invariant.so_far bytes told) takes

pub returns-then-byte-eq-LINE_FEED-clause-taken : goal.returns-then-byte-eq-LINE_FEED-clause-taken
returns-then-byte-eq-LINE_FEED-clause-taken g c = λ bytes told.
    let takes = rw c.in-Ok-Some.field-0-is at c.in-Ok-Some.ensures.gives in
    full-taken c.args.count bytes c.push.new.self.items (g.S.Source.left c.next.new.self) (g.S.Source.left c.next.new.self) 0 refl
    (line-ends c.args.count bytes c.taking.line.items c.taking.room c.in-Ok-Some.byte (g.S.Source.left c.taking.from) (g.S.Source.left c.next.new.self) c.taking-test.true (c.taking.invariant.so_far bytes told) takes c.push.new.self.items c.in-Ok.ensures.items c.if-byte-eq-LINE_FEED.true)

pub returns-then-byte-eq-LINE_FEED-clause-left : goal.returns-then-byte-eq-LINE_FEED-clause-left
returns-then-byte-eq-LINE_FEED-clause-left g c = λ bytes told.
    let takes = rw c.in-Ok-Some.field-0-is at c.in-Ok-Some.ensures.gives in
    full-left c.args.count bytes c.push.new.self.items (g.S.Source.left c.next.new.self) (g.S.Source.left c.next.new.self) 0 refl
    (line-ends c.args.count bytes c.taking.line.items c.taking.room c.in-Ok-Some.byte (g.S.Source.left c.taking.from) (g.S.Source.left c.next.new.self) c.taking-test.true (c.taking.invariant.so_far bytes told) takes c.push.new.self.items c.in-Ok.ensures.items c.if-byte-eq-LINE_FEED.true)

pub taking-preserved : goal.taking-preserved
taking-preserved g c =
    let takes = rw c.in-Ok-Some.field-0-is at c.in-Ok-Some.ensures.gives in
    record {
      so_far = λ bytes told. line-goes c.args.count bytes c.taking.line.items c.taking.room c.in-Ok-Some.byte (g.S.Source.left c.taking.from) (g.S.Source.left c.next.new.self) c.taking-test.true (c.taking.invariant.so_far bytes told) takes c.push.new.self.items c.in-Ok.ensures.items c.if-byte-eq-LINE_FEED.false;
      few = omega (arith, c.in-Ok.ensures.len, c.taking.invariant.few, c.taking-test.true);
      same = c.in-Ok-Some.ensures.same ∙ c.taking.invariant.same;
    }

pub returns-clause-taken : goal.returns-clause-taken
returns-clause-taken g c = λ bytes told.
    let full : c.taking.room ≡ 0 = grind (arith, nat_tests) in
    full-taken c.args.count bytes c.taking.line.items (g.S.Source.left c.taking.from) (g.S.Source.left c.taking.from) c.taking.room full (c.taking.invariant.so_far bytes told)

pub returns-clause-left : goal.returns-clause-left
returns-clause-left g c = λ bytes told.
    let full : c.taking.room ≡ 0 = grind (arith, nat_tests) in
    full-left c.args.count bytes c.taking.line.items (g.S.Source.left c.taking.from) (g.S.Source.left c.taking.from) c.taking.room full (c.taking.invariant.so_far bytes told)
