use Rattle.std.proofs.Common.{◌-◌, ◌*◌, ◌/◌, ◌<◌, ◌∙◌, ap, length, refl, arith}
use Rattle.std.proofs.lemmas.Nat.{from_le_bytes-to_le_bytes_4}
use Rattle.std.specs.Int.{from_le_bytes, w32}
use Rattle.std.specs.Prelude.{slice_set}
use Rattle.kn_base.specs.Memory.{Memory, page_at}
use Rattle.kn_base.specs.Rows.{overwritten}
use Rattle.kernel_tables.specs.Kernel.{kernel_of, tables_of, first_page}
use Rattle.kernel_tables.proofs.Places.{tables_of-word}
use Rattle.kernel_tables.proofs.machine.set_word.Goals as goal

pub returns-clause-written : goal.returns-clause-written
unfolding kernel_of tables_of first_page
returns-clause-written g c =
    let memory = g.T.Store.memory c.args.store.now in
    let size = (length memory.keys / 16 - 1296) / 4 in
    let two : 1 < length memory.pages = omega arith in
    let written : Memory = record memory { pages = slice_set memory.pages 1 (overwritten (page_at memory 1) (4 * c.args.n) c.to_le_bytes.result) } in
    ap kernel_of {y = written} c.write_page.ensures.written
    ∙ tables_of-word size memory c.args.n c.args.value (4 * c.args.n) c.to_le_bytes.result (omega arith)
    (g.met.T.Store.page_length c.args.store.now 1 two) c.requires.row refl (ap length c.to_le_bytes.ensures)
    (ap (from_le_bytes w32) c.to_le_bytes.ensures ∙ from_le_bytes-to_le_bytes_4 c.args.value c.ranges.value.fits)
