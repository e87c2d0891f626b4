use Rattle.unix_laws.proofs.FewParents.{never-within}
use Rattle.unix_laws.proofs.tree.rename_looks_far.Goals as goal

pub returns : goal.returns
returns c = λ inodes outer number inside below far steps. never-within inodes outer inside number below far steps
