use Rattle.std.proofs.Common.{length}
use Rattle.kernel_tables.specs.Kernel.{kernel_of}
use Rattle.kernel_machine.specs.Machine.{machine_of}
use Rattle.kernel_machine.specs.View.{stored, view}
use Rattle.file_domain.specs.Effects.{part_within, with_bytes_written}
use Rattle.tests_files.proofs.Written.{file_written}
use Rattle.tests_files.proofs.guarded.put.Goals as goal

pub returns-clause-good : goal.returns-clause-good
returns-clause-good g c =
    let old = kernel_of (g.T.Store.memory c.args.store.now) in
    let inode = c.requires.file.0 in
    (file_written (with_bytes_written (view (machine_of old)) c.args.file (stored (machine_of old) inode) c.args.at c.args.from.now) old (kernel_of (g.T.Store.memory c.write_at.new.store))
    c.args.file (length (part_within c.args.at c.args.from.now)) inode c.write_at.result c.requires.good c.requires.file.1
    (c.write_at.ensures.written inode c.requires.file.1)).0

pub returns-clause-file : goal.returns-clause-file
returns-clause-file g c =
    let old = kernel_of (g.T.Store.memory c.args.store.now) in
    let inode = c.requires.file.0 in
    (file_written (with_bytes_written (view (machine_of old)) c.args.file (stored (machine_of old) inode) c.args.at c.args.from.now) old (kernel_of (g.T.Store.memory c.write_at.new.store))
    c.args.file (length (part_within c.args.at c.args.from.now)) inode c.write_at.result c.requires.good c.requires.file.1
    (c.write_at.ensures.written inode c.requires.file.1)).1
