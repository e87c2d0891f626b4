use Rattle.std.proofs.Common.{arith, ◌∙◌, ◌≡◌, ◌+◌, Some}
use Rattle.unix_model.specs.Memory.{byte_at}
use Rattle.flat_memory.specs.MemoryView.{memory_of}
use Rattle.flat_enter.proofs.TextLaws.{text-end}
use Rattle.flat_enter.proofs.texts.text.Goals as goal

pub returns-in-Some-eq0-clause-text : goal.returns-in-Some-eq0-clause-text
returns-in-Some-eq0-clause-text c =
    let found : byte_at (memory_of c.args.memory.now) (c.args.address + c.loop-i.i) ≡ Some 0 = cc in
    c.loop-i.invariant.text ∙ text-end (memory_of c.args.memory.now) c.args.too_long c.args.most c.loop-i.i c.args.address c.loop-i.bytes.items (omega arith) found
