use Rattle.std.proofs.Common.{length}
use Rattle.kernel_tables.specs.Kernel.{kernel_of}
use Rattle.file_domain.proofs.Parts.{no_bytes, nothing_written, some_bytes, too_far, whole_written}
use Rattle.file_domain.proofs.Seen.{same_row}
use Rattle.file_domain.proofs.whole.write_at.Goals as goal

pub returns-then-is_empty-clause-written : goal.returns-then-is_empty-clause-written
returns-then-is_empty-clause-written g c inode file =
    nothing_written (kernel_of (g.T.Store.memory c.args.store.now)) c.args.file c.args.at inode c.args.from.now c.requires.good file (no_bytes (length c.args.from.now) c.is_empty.result c.is_empty.ensures c.if-is_empty.true)

pub returns-then-at-ge4194304-clause-written : goal.returns-then-at-ge4194304-clause-written
returns-then-at-ge4194304-clause-written g c inode file =
    too_far (kernel_of (g.T.Store.memory c.args.store.now)) c.args.file c.args.at inode c.args.from.now (some_bytes (length c.args.from.now) c.is_empty.result c.is_empty.ensures c.if-is_empty.false) c.if-at-ge4194304.true

pub returns-in-Some-clause-written : goal.returns-in-Some-clause-written
returns-in-Some-clause-written g c inode file =
    let old = kernel_of (g.T.Store.memory c.args.store.now) in
    whole_written old (kernel_of (g.T.Store.memory c.write_part.new.store)) c.args.file c.args.at inode c.in-Some.inode c.args.from.now c.front-part.result.now c.write_part.result file
    (same_row old c.args.file c.in-Some.inode inode file c.in-Some.ensures) (some_bytes (length c.args.from.now) c.is_empty.result c.is_empty.ensures c.if-is_empty.false) c.front-part.ensures.first c.write_part.ensures.written
