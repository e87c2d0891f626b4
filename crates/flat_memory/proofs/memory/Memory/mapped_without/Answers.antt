use Rattle.std.proofs.Common.{arith, sym, ◌∙◌, ◌≤◌, ◌<◌, ◌^◌}
use Rattle.unix_model.proofs.CountLaws.{fewer-next}
use Rattle.flat_memory.specs.MemoryView.{memory_of}
use Rattle.flat_memory.proofs.memory.Memory.mapped_without.Goals as goal

pub overflow_sub-left : goal.overflow_sub-left
overflow_sub-left c =
    let above : c.args.from ≤ c.loop-number.number = omega arith in
    let inside : c.loop-number.number < 2 ^ 19 = omega arith in
    omega (arith, c.loop-number.invariant, fewer-next (memory_of c.args.self.now) c.args.start c.args.from c.loop-number.number above inside (sym c.has.ensures ∙ c.if-has.true))
