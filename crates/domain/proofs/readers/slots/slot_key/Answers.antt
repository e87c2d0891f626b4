use Rattle.std.proofs.Common.{◌∙◌, ◌+◌, ◌/◌, ◌%◌, ◌<◌, arith}
use Rattle.kernel_tables.specs.Kernel.{kernel_of}
use Rattle.domain.proofs.Writing.{fixed_key}
use Rattle.domain.proofs.readers.slots.slot_key.Goals as goal

pub returns : goal.returns
returns g c =
    let kernel = kernel_of (g.T.Store.memory c.args.store.now) in
    let slot = c.requires.slot in
    c.spelled_key.ensures ∙ fixed_key kernel (11 + c.args.slot / 16) (c.args.slot % 16) c.requires.good (omega arith) (let low : c.args.slot % 16 < 16 = omega arith in low)
