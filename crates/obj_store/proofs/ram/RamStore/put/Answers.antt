use Rattle.std.proofs.Common.{arith}
use Rattle.obj_store.specs.Store.{ram_of}
use Rattle.obj_store.proofs.Blocks.{block_written}
use Rattle.obj_store.proofs.ram.RamStore.put.Goals as goal

-- the slice of the block is the part that is written
pub returns : goal.returns
returns c =
    block_written (ram_of c.args.self.now) c.args.number c.args.at c.index_mut-block.result.now c.copy_from_slice.new.self
    c.args.from.now _ c.index_mut-block.ensures.value c.requires.number c.copy_from_slice.ensures.after (omega arith)
