use Rattle.std.proofs.Common.{arith, rules}
use Rattle.kn_base.proofs.RowLaws.{writes}
use Rattle.space_bank.proofs.empty.fix_nodes.Goals as goal

pub loop-n-preserved : goal.loop-n-preserved
loop-n-preserved g c = record {
  fixed = grind (arith, writes);
  kept = search (g.met.T.Store.keeps_trans, rules);
}
