use Rattle.kernel_tables.specs.Kernel.{kernel_of}
use Rattle.tests_files.proofs.Unnamed.{is_unnamed}
use Rattle.tests_files.proofs.dropping.is_unnamed.Goals as goal

pub returns-else-not-is_nothing_open : goal.returns-else-not-is_nothing_open
returns-else-not-is_nothing_open g c none =
    let kernel = kernel_of (g.T.Store.memory c.args.store.now) in (
      c.in-Some.inode,
      is_unnamed kernel c.args.number c.in-Some.inode c.requires.low c.in-Some.ensures c.if-inode-ne0.false c.if-inode-ne0-2.false
          (c.is_nothing_open.ensures c.if-not-is_nothing_open.false) (c.has_no_places.ensures none),
    )
