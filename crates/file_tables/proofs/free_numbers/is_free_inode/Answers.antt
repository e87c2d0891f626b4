use Rattle.std.proofs.Common.{◌+◌, ◌/◌, ◌==◌, ap, arith, sym, ◌∙◌}
use Rattle.std.specs.Int.{from_le_bytes, w32}
use Rattle.kernel_tables.specs.Kernel.{kernel_of, inode_at}
use Rattle.file_tables.proofs.FreeRowLaws.{free_inode_read, free_row, table_page}
use Rattle.file_tables.proofs.free_numbers.is_free_inode.Goals as goal

pub read_page-requires-clause-page : goal.read_page-requires-clause-page
read_page-requires-clause-page g c =
    let below = c.requires.number in
    table_page (g.T.Store.memory c.args.store.now) (2 + c.args.number / 128) c.requires.sized (omega arith)

pub returns-clause-answer : goal.returns-clause-answer
returns-clause-answer g c =
    ap (λ n. n == 0) (c.from_le_bytes.ensures ∙ ap (from_le_bytes w32) c.read_page.ensures)
    ∙ free_inode_read (g.T.Store.memory c.args.store.now) c.args.number c.requires.sized c.requires.good c.requires.number

pub returns-clause-free : goal.returns-clause-free
returns-clause-free g c =
    λ e. free_row (inode_at (kernel_of (g.T.Store.memory c.args.store.now)) c.args.number) (sym (returns-clause-answer g c) ∙ e)
