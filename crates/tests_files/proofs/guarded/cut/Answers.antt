use Rattle.kernel_tables.specs.Kernel.{kernel_of}
use Rattle.kernel_machine.specs.Machine.{machine_of}
use Rattle.kernel_machine.specs.View.{stored, view}
use Rattle.file_domain.specs.Cutting.{with_length}
use Rattle.tests_files.proofs.Written.{file_cut}
use Rattle.tests_files.proofs.guarded.cut.Goals as goal

pub returns : goal.returns
returns g c =
    let old = kernel_of (g.T.Store.memory c.args.store.now) in
    let file = c.is_file.ensures.file c.if-not-is_file.false in
    record {
      good = file_cut (with_length (view (machine_of old)) c.args.file (stored (machine_of old) file.0) c.args.length) old (kernel_of (g.T.Store.memory c.truncate.new.store))
          c.args.file file.0 c.truncate.result c.requires.good (c.truncate.ensures.truncated file.0 file.1);
    }
