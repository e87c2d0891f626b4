use Rattle.std.proofs.Common.{arith, refl}
use Rattle.kernel_tables.specs.Kernel.{kernel_of}
use Rattle.kernel_tables.specs.Rows.{domain_rows}
use Rattle.domain.proofs.DomainLaws.{live_meter}
use Rattle.domain.proofs.FieldLaws.{answer_told, third_read, words_read}
use Rattle.domain.proofs.readers.answer_of.Goals as goal

pub overflow_cast-result : goal.overflow_cast-result
overflow_cast-result g c =
    let rows = domain_rows (kernel_of (g.T.Store.memory c.args.store.now)) in
    let low = ((c.requires.rows.roots c.args.root.0 (live_meter rows c.args.root.0 c.requires.live)).numbers 11 (omega arith) (omega arith)).answer refl in
    let is = third_read c.words_in.result (rows c.args.root.0 11) (words_read c.words_in.result c.root_key.result (rows c.args.root.0 11) c.words_in.ensures c.root_key.ensures) in
    omega arith

pub returns : goal.returns
returns g c =
    let rows = domain_rows (kernel_of (g.T.Store.memory c.args.store.now)) in
    answer_told rows c.args.root.0 c.requires.live c.words_in.result (words_read c.words_in.result c.root_key.result (rows c.args.root.0 11) c.words_in.ensures c.root_key.ensures)
