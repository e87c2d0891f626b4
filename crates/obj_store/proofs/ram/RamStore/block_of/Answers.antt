use Rattle.std.proofs.Common.{arith}
use Rattle.obj_store.specs.StoreLaws.{node_inside}
use Rattle.obj_store.proofs.ram.RamStore.block_of.Goals as goal

-- the store has fewer blocks than the type has numbers
pub overflow_add-result : goal.overflow_add-result
overflow_add-result c =
    let inside = node_inside c.args.self.now c.args.node.0 c.requires in omega (arith, c.args.self.now.blocks.ok, c.args.self.now.few)

pub returns-clause-inside : goal.returns-clause-inside
returns-clause-inside c = node_inside c.args.self.now c.args.node.0 c.requires
