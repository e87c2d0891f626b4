use Rattle.unix_laws.proofs.SingleCalls.{fork_leaves_child}
use Rattle.unix_laws.proofs.calls.fork_leaves_child.Goals as goal

pub returns : goal.returns
returns c = fork_leaves_child
