use Rattle.std.proofs.Common.{arith, rules}
use Rattle.kernel_tables.specs.Kernel.{first_page}
use Rattle.space_bank.proofs.SetupLaws.{linking}
use Rattle.space_bank.proofs.empty.link_pages.Goals as goal

pub following-next-requires-clause-small : goal.following-next-requires-clause-small
unfolding first_page
following-next-requires-clause-small g c = omega arith

pub loop-n-preserved : goal.loop-n-preserved
loop-n-preserved g c = record {
  linked = grind (arith, linking);
  kept = search (g.met.T.Store.keeps_trans, rules);
}
