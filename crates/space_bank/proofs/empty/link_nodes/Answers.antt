use Rattle.std.proofs.Common.{arith, rules}
use Rattle.space_bank.proofs.SetupLaws.{linking}
use Rattle.space_bank.proofs.empty.link_nodes.Goals as goal

pub loop-n-preserved : goal.loop-n-preserved
loop-n-preserved g c = record {
  linked = grind (arith, linking);
  kept = search (g.met.T.Store.keeps_trans, rules);
}
