use Rattle.kernel_tables.specs.Kernel.{kernel_of}
use Rattle.kernel_tables.specs.Rows.{domain_rows}
use Rattle.domain.proofs.WordLaws.{whole_named}
use Rattle.domain.proofs.readers.words.node_of_words.Goals as goal

pub unreachable-requires : goal.unreachable-requires
unreachable-requires g c =
    whole_named (domain_rows (kernel_of (g.T.Store.memory c.args.store.now))) c.args.root.0 c.args.place c.requires.live c.requires.whole c.requires.place c.in-None.ensures
