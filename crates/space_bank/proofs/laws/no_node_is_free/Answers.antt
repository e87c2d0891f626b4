use Rattle.space_bank.proofs.FullLaws.{no_node-free}
use Rattle.space_bank.proofs.laws.no_node_is_free.Goals as goal

pub returns : goal.returns
returns c = no_node-free
