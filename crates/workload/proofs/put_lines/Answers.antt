use Rattle.std.proofs.Common.{◌≡◌, ◌≤◌, ◌++◌, arith, ap, ◌∙◌}
use Rattle.std.proofs.lemmas.Bool.Decides.{nat_tests}
use Rattle.workload.specs.Workload.{data_line, data_lines, next_number}
use Rattle.workload.proofs.Numbers.{one_more, no_more}
use Rattle.workload.proofs.put_lines.Goals as goal

pub loop-preserved : goal.loop-preserved
loop-preserved c =
    let number = c.next_number-number.ensures in
    let line : c.as_slice.result.now ≡ data_line c.next_number-number.result = c.as_slice.ensures ∙ c.data_line-line.ensures in
    let put : c.extend_from_slice.new.self.items ≡ c.loop.bytes.items ++ data_line (next_number c.loop.number) =
    c.in_ok-extend_from_slice.ensures.items ∙ ap (λ bytes. c.loop.bytes.items ++ bytes) (line ∙ ap data_line number) in
    rw number
    (one_more c.loop.bytes.items c.extend_from_slice.new.self.items (c.args.bytes.now.items ++ data_lines c.args.lines c.args.seed) c.args.lines c.loop.counter c.loop.number
    c.loop-test.true put c.loop.invariant)

pub returns : goal.returns
returns c = let all : c.args.lines ≤ c.loop.counter = grind (arith, nat_tests) in no_more c.loop.bytes.items (c.args.bytes.now.items ++ data_lines c.args.lines c.args.seed) c.args.lines c.loop.counter c.loop.number all c.loop.invariant
