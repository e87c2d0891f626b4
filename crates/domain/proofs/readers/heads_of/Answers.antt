use Rattle.kernel_tables.specs.Kernel.{kernel_of}
use Rattle.kernel_tables.specs.Rows.{domain_rows}
use Rattle.domain.proofs.FieldLaws.{heads_told, words_read}
use Rattle.domain.proofs.readers.heads_of.Goals as goal

pub returns : goal.returns
returns g c =
    let rows = domain_rows (kernel_of (g.T.Store.memory c.args.store.now)) in
    heads_told rows c.args.root.0 c.requires.live c.words_in.result c.words_in-2.result
    (words_read c.words_in.result c.root_key.result (rows c.args.root.0 7) c.words_in.ensures c.root_key.ensures)
    (words_read c.words_in-2.result c.root_key-2.result (rows c.args.root.0 8) c.words_in-2.ensures c.root_key-2.ensures)
