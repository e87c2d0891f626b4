use Rattle.std.proofs.Common.{◌≡◌, ◌*◌, ℕ, Option, Some, List, replicate, inl, inr, refl, ap, subst}
use Rattle.kn_base.specs.declared.key.Key.{Key}
use Rattle.kn_base.specs.declared.key.Key.TheVariants.{Null}
use Rattle.kn_base.specs.Rows.{overwritten}
use Rattle.kn_base.specs.Memory.{ChangesBlock}
use Rattle.kernel_tables.specs.Kernel.{Kernel, kernel_of}
use Rattle.kernel_tables.specs.Blocks.{machine_block, node_entry_block}
use Rattle.kernel_tables.proofs.BlockLaws.{one_more, and_others}
use Rattle.space_bank.proofs.nodes.free_up.Goals as goal

same-size : (old new : Kernel) (keys : List (Option Key)) → new ≡ record old { keys = keys } → new.size ≡ old.size
same-size old new keys is = ap (λ (k : Kernel). k.size) is

pub returns-clause-blocks : goal.returns-clause-blocks
returns-clause-blocks g c =
    let kernel = kernel_of (g.T.Store.memory c.args.store.now) in
    let cleared = kernel_of (g.T.Store.memory c.clear_keys.new.store) in
    let keys = and_others c.clear_keys.ensures.blocks in
    let size = same-size kernel cleared (overwritten kernel.keys (16 * c.args.node.0) (replicate 16 (Some Null))) c.clear_keys.ensures.cleared in
    let entry = one_more (node_entry_block kernel.size c.args.node.0) keys (inr (inl refl))
    (subst (λ (size : ℕ). ChangesBlock (g.T.Store.blocks c.clear_keys.new.store) (g.T.Store.blocks c.set_node_entry.new.store) (node_entry_block size c.args.node.0)) size c.set_node_entry.ensures.one_block) in
    let first = one_more machine_block entry (inr (inr (inl refl))) c.set_free_node.ensures.one_block in
    one_more machine_block first (inr (inr (inl refl))) c.set_nodes_taken.ensures.one_block
