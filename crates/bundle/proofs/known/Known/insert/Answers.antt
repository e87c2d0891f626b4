use Rattle.std.proofs.Common.{Some, sym}
use Rattle.std.proofs.Math.Path.{fun_ext}
use Rattle.bundle.proofs.KnownLaws.{still-there, updated}
use Rattle.bundle.proofs.known.Known.insert.Goals as goal

pub invariant_of-self-2 : goal.invariant_of-self-2
invariant_of-self-2 c = record {
  room = c.args.self.now.room;
  remembered = λ there. still-there c.args.key.bytes.items c.args.self.now.last.bytes.items c.args.self.now.paths c.insert.new.self c.args.is_directory c.in-Ok-None.ensures.updates
      (sym (rw c.in-Ok-None.field-0-is at c.in-Ok-None.ensures.old)) (c.args.self.now.remembered there);
}

pub returns-clause-added : goal.returns-clause-added
returns-clause-added c = fun_ext (λ other. updated c.args.key.bytes.items c.args.self.now.paths c.insert.new.self (Some c.args.is_directory) c.in-Ok-None.ensures.updates other)
