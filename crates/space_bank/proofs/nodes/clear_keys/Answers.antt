use Rattle.std.proofs.Common.{ℕ, inl, refl, ap, subst, arith, rules}
use Rattle.kn_base.specs.Memory.{ChangesBlock}
use Rattle.kn_base.proofs.RowLaws.{writes}
use Rattle.kernel_tables.specs.Kernel.{Kernel, kernel_of}
use Rattle.kernel_tables.specs.Blocks.{key_block}
use Rattle.kernel_tables.proofs.BlockLaws.{no_block, one_more}
use Rattle.space_bank.proofs.nodes.clear_keys.Goals as goal

pub loop-place-init : goal.loop-place-init
loop-place-init g c = record {
  cleared = grind (arith, writes);
  kept = search (g.met.T.Store.keeps_same, rules);
  blocks = no_block;
}

pub loop-place-preserved : goal.loop-place-preserved
loop-place-preserved g c =
    let pages = ap (λ (k : Kernel). k.pages) c.loop-place.invariant.cleared in
    record {
      cleared = grind (arith, writes);
      kept = search (g.met.T.Store.keeps_trans, rules);
      blocks =
          one_more (key_block (kernel_of (g.T.Store.memory c.args.store.now)).pages c.args.node.0) c.loop-place.invariant.blocks (inl refl)
          (subst (λ (pages : ℕ). ChangesBlock (g.T.Store.blocks c.loop-place.store) (g.T.Store.blocks c.set_key_at.new.store) (key_block pages c.args.node.0)) pages c.set_key_at.ensures.one_block);
    }
