use Rattle.std.proofs.Common.{sym, ◌∙◌, arith}
use Rattle.unix_model.proofs.CountLaws.{but-free, but-there, but-few}
use Rattle.flat_memory.specs.MemoryView.{memory_of}
use Rattle.flat_memory.proofs.memory.Memory.mapped_but.Goals as goal

pub overflow_sub-result : goal.overflow_sub-result
overflow_sub-result c = omega (arith, c.args.self.now.counted, but-there (memory_of c.args.self.now) c.args.number c.requires (sym c.has.ensures ∙ c.if-has.true))

pub returns-then-has-clause-few : goal.returns-then-has-clause-few
returns-then-has-clause-few c = omega (arith, c.args.self.now.counted, but-few (memory_of c.args.self.now) c.args.number c.requires, but-there (memory_of c.args.self.now) c.args.number c.requires (sym c.has.ensures ∙ c.if-has.true))

pub returns-else-has-clause-few : goal.returns-else-has-clause-few
returns-else-has-clause-few c = omega (arith, c.args.self.now.counted, but-few (memory_of c.args.self.now) c.args.number c.requires, but-free (memory_of c.args.self.now) c.args.number c.requires (sym c.has.ensures ∙ c.if-has.false))
