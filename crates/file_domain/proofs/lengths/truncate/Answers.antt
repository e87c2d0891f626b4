use Rattle.kernel_tables.specs.Kernel.{kernel_of}
use Rattle.file_domain.proofs.Seen.{same_row}
use Rattle.file_domain.proofs.Truncating.{length_by_row, length_large}
use Rattle.file_domain.proofs.lengths.truncate.Goals as goal

pub returns-then-length-gt4194304-clause-truncated : goal.returns-then-length-gt4194304-clause-truncated
returns-then-length-gt4194304-clause-truncated g c inode file =
    length_large (kernel_of (g.T.Store.memory c.args.store.now)) c.args.file c.args.length inode c.if-length-gt4194304.true

pub returns-in-Some-clause-truncated : goal.returns-in-Some-clause-truncated
returns-in-Some-clause-truncated g c inode file =
    let old = kernel_of (g.T.Store.memory c.args.store.now) in
    length_by_row old (kernel_of (g.T.Store.memory c.set_length.new.store)) c.args.file c.args.length inode c.in-Some.inode c.set_length.result file
    (same_row old c.args.file c.in-Some.inode inode file c.in-Some.ensures) c.set_length.ensures.truncated
