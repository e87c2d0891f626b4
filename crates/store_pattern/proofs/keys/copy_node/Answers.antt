use Rattle.std.proofs.Common.{◌≡◌, arith, rules}
use Rattle.kn_base.specs.Memory.{key_at}
use Rattle.kn_base.proofs.RowLaws.{writes, part_at-more}
use Rattle.store_pattern.proofs.keys.copy_node.Goals as goal

-- the keys of the first node are as they were
pub key-key-requires-clause-spelled : goal.key-key-requires-clause-spelled
key-key-requires-clause-spelled g c =
    let same :
    key_at (g.T.Store.memory c.loop-place.store) c.args.from.0 c.loop-place.place
    ≡ key_at (g.T.Store.memory c.args.store.now) c.args.from.0 c.loop-place.place =
    grind (arith, writes)
    in rw same (c.requires.spelled c.loop-place.place c.loop-place-test.true)

pub loop-place-preserved : goal.loop-place-preserved
loop-place-preserved g c = record {
  copied = grind (arith, writes, part_at-more);
  kept = search (g.met.T.Store.keeps_trans, rules);
}
