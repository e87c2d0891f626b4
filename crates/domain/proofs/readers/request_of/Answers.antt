use Rattle.std.proofs.Common.{arith, refl}
use Rattle.kernel_tables.specs.Kernel.{kernel_of}
use Rattle.kernel_tables.specs.Rows.{domain_rows}
use Rattle.domain.proofs.DomainLaws.{live_meter}
use Rattle.domain.proofs.FieldLaws.{first_read, request_told, third_read, words_read}
use Rattle.domain.proofs.readers.request_of.Goals as goal

pub overflow_cast-result : goal.overflow_cast-result
overflow_cast-result g c =
    let rows = domain_rows (kernel_of (g.T.Store.memory c.args.store.now)) in
    let low = ((c.requires.rows.roots c.args.root.0 (live_meter rows c.args.root.0 c.requires.live)).numbers 9 (omega arith) (omega arith)).call refl in
    let is = first_read c.words_in.result (rows c.args.root.0 9) (words_read c.words_in.result c.root_key.result (rows c.args.root.0 9) c.words_in.ensures c.root_key.ensures) in
    omega arith

pub overflow_cast-result-2 : goal.overflow_cast-result-2
overflow_cast-result-2 g c =
    let rows = domain_rows (kernel_of (g.T.Store.memory c.args.store.now)) in
    let low = ((c.requires.rows.roots c.args.root.0 (live_meter rows c.args.root.0 c.requires.live)).numbers 10 (omega arith) (omega arith)).request refl in
    let is = third_read c.words_in-2.result (rows c.args.root.0 10) (words_read c.words_in-2.result c.root_key-2.result (rows c.args.root.0 10) c.words_in-2.ensures c.root_key-2.ensures) in
    omega arith

pub returns : goal.returns
returns g c =
    let rows = domain_rows (kernel_of (g.T.Store.memory c.args.store.now)) in
    request_told rows c.args.root.0 c.requires.live c.words_in.result c.words_in-2.result
    (words_read c.words_in.result c.root_key.result (rows c.args.root.0 9) c.words_in.ensures c.root_key.ensures)
    (words_read c.words_in-2.result c.root_key-2.result (rows c.args.root.0 10) c.words_in-2.ensures c.root_key-2.ensures)
