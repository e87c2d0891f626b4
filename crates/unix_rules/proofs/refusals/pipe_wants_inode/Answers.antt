use Rattle.unix_rules.proofs.Rows.{pipe_wants_inode}
use Rattle.unix_rules.proofs.refusals.pipe_wants_inode.Goals as goal

pub returns : goal.returns
returns c = pipe_wants_inode
