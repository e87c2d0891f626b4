use Rattle.std.proofs.Common.{ap, ◌∙◌}
use Rattle.kn_base.specs.Memory.{memory_of}
use Rattle.kn_base.proofs.MemoryLaws.{memory_of-zeros}
use Rattle.obj_store.proofs.Blocks.{zero_blocks-whole, zero_blocks-bytes}
use Rattle.obj_store.proofs.ram.RamStore.new.Goals as goal

pub invariant_of-result-clause-whole : goal.invariant_of-result-clause-whole
invariant_of-result-clause-whole c = zero_blocks-whole _ c.in-Ok.blocks.items c.in-Ok.ensures

pub invariant_of-result-clause-bytes : goal.invariant_of-result-clause-bytes
invariant_of-result-clause-bytes c = zero_blocks-bytes _ c.in-Ok.blocks.items c.in-Ok.ensures

-- zeros spell Null keys
pub returns-clause-memory : goal.returns-clause-memory
returns-clause-memory c =
    ap (memory_of c.args.pages) c.in-Ok.ensures ∙ memory_of-zeros c.args.pages c.args.nodes c.requires.whole_blocks
