use Rattle.std.proofs.Common.{◌+◌, ◌*◌, Some, sym, subst, arith}
use Rattle.kernel_tables.specs.Kernel.{Kernel, kernel_of}
use Rattle.space_bank.specs.Changes.{key_written}
use Rattle.space_bank.specs.Fixed.{FixedNodes}
use Rattle.space_bank.proofs.FixedLaws.{fixed_nodes-set}
use Rattle.space_bank.proofs.ChangeLaws.{keys-exchanged}
use Rattle.kernel_tables.specs.Blocks.{key_block}
use Rattle.kernel_tables.proofs.BlockLaws.{one_block}
use Rattle.space_bank.proofs.contents.write_key.Goals as goal

pub returns-clause-shares : goal.returns-clause-shares
returns-clause-shares g c =
    let kernel = kernel_of (g.T.Store.memory c.args.store.now) in
    keys-exchanged kernel (kernel_of (g.T.Store.memory c.set_key_at.new.store)) c.args.node.0 c.args.place c.args.key
    (omega (arith, c.requires.good.nodes.all_keys, c.requires.inside, c.requires.place)) c.set_key_at.ensures.written

pub returns-clause-fixed : goal.returns-clause-fixed
returns-clause-fixed g c high fixed =
    let kernel = kernel_of (g.T.Store.memory c.args.store.now) in
    subst (λ (k : Kernel). FixedNodes k.keys) (sym {b = key_written kernel c.args.node.0 c.args.place c.args.key} c.set_key_at.ensures.written)
    (fixed_nodes-set kernel.keys (16 * c.args.node.0 + c.args.place) (Some c.args.key) (omega arith) fixed)

pub returns-clause-blocks : goal.returns-clause-blocks
returns-clause-blocks g c = one_block (key_block (kernel_of (g.T.Store.memory c.args.store.now)).pages c.args.node.0) c.set_key_at.ensures.one_block
