use Rattle.std.proofs.Common.{◌+◌, ◌*◌, ◌∙◌, ap, min}
use Rattle.rv_asm.proofs.OperandLaws.{cut-digit, hex_after-digit}
use Rattle.rv_asm.proofs.operands.hexadecimal.Goals as goal

pub loop-byte-preserved : goal.loop-byte-preserved
loop-byte-preserved c =
    let so_far = c.loop-byte.invariant in
    let digit = c.in-Some.digit in (
      16 * so_far.0 + digit,
      c.min-number.ensures
          ∙ ap (λ value. min (16 * c.loop-byte.number + value) 4294967296) c.from.ensures
          ∙ cut-digit so_far.0 digit c.loop-byte.number so_far.1,
      so_far.2 ∙ hex_after-digit c.args.digits.now c.loop-byte.byte-index so_far.0 digit c.loop-byte-test.true c.in-Some.ensures.value,
    )
