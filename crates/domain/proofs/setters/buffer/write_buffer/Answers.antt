use Rattle.std.proofs.Common.{◌≡◌, ◌∙◌, ◌-◌, [], ◌∷◌, Some, None, ap, sym, subst}
use Rattle.kernel_tables.specs.Kernel.{kernel_of, first_page}
use Rattle.kernel_tables.specs.Rows.{domain_rows}
use Rattle.kernel_tables.specs.Blocks.{key_block, page_entry_block, machine_block}
use Rattle.space_bank.specs.FreeList.{is_free}
use Rattle.domain.specs.Buffers.{WritesBuffer, BufferBlocks}
use Rattle.unix_model.specs.Tables.{at}
use Rattle.domain.specs.Domains.{domains}
use Rattle.domain.specs.Rules.{RowsGood}
use Rattle.domain.proofs.FieldLaws.{buffer_read}
use Rattle.domain.proofs.Pages.{held_page}
use Rattle.domain.proofs.BlockSets.{blocks_then, no_buffer_blocks}
use Rattle.domain.proofs.setters.buffer.write_buffer.Goals as goal

pub write_page-requires-clause-page : goal.write_page-requires-clause-page
write_page-requires-clause-page g c =
    (held_page (kernel_of (g.T.Store.memory c.args.store.now)) c.args.root.0 c.in-Some.page.0 (buffer_read (domain_rows (kernel_of (g.T.Store.memory c.args.store.now))) c.args.root.0 c.root_key.result (Some c.in-Some.page.0) c.requires.live c.root_key.ensures c.in-Some.ensures) c.requires.buffer).inside

pub write_page-requires-clause-used : goal.write_page-requires-clause-used
write_page-requires-clause-used g c =
    ap is_free (held_page (kernel_of (g.T.Store.memory c.args.store.now)) c.args.root.0 c.in-Some.page.0 (buffer_read (domain_rows (kernel_of (g.T.Store.memory c.args.store.now))) c.args.root.0 c.root_key.result (Some c.in-Some.page.0) c.requires.live c.root_key.ensures c.in-Some.ensures) c.requires.buffer).entry

pub write_page-requires-in-None-clause-page : goal.write_page-requires-in-None-clause-page
write_page-requires-in-None-clause-page g c = c.take_buffer-page.ensures.taken.buffer.inside

pub write_page-requires-in-None-clause-used : goal.write_page-requires-in-None-clause-used
write_page-requires-in-None-clause-used g c = ap is_free c.take_buffer-page.ensures.taken.buffer.entry

pub take_buffer-page-requires-clause-none : goal.take_buffer-page-requires-clause-none
take_buffer-page-requires-clause-none g c =
    buffer_read (domain_rows (kernel_of (g.T.Store.memory c.args.store.now))) c.args.root.0 c.root_key.result None c.requires.live c.root_key.ensures c.in-None.ensures

pub take_buffer-page-requires-clause-room : goal.take_buffer-page-requires-clause-room
take_buffer-page-requires-clause-room g c =
    c.requires.room c.if-from-eq0.false
    (buffer_read (domain_rows (kernel_of (g.T.Store.memory c.args.store.now))) c.args.root.0 c.root_key.result None c.requires.live c.root_key.ensures c.in-None.ensures)

pub returns-in-Some-clause-written : goal.returns-in-Some-clause-written
returns-in-Some-clause-written g c =
    let old = kernel_of (g.T.Store.memory c.args.store.now) in
    let new = kernel_of (g.T.Store.memory c.write_page.new.store) in
    λ some. subst (WritesBuffer old new c.args.root.0 c.args.start c.args.from.now)
    (sym (buffer_read (domain_rows old) c.args.root.0 c.root_key.result (Some c.in-Some.page.0) c.requires.live c.root_key.ensures c.in-Some.ensures)) c.write_page.ensures.written

pub returns-in-None-clause-written : goal.returns-in-None-clause-written
returns-in-None-clause-written g c =
    let old = kernel_of (g.T.Store.memory c.args.store.now) in
    let new = kernel_of (g.T.Store.memory c.write_page-in-None.new.store) in
    λ some. subst (WritesBuffer old new c.args.root.0 c.args.start c.args.from.now)
    (sym (buffer_read (domain_rows old) c.args.root.0 c.root_key.result None c.requires.live c.root_key.ensures c.in-None.ensures))
    (record { page = c.take_buffer-page.result.0; between = kernel_of (g.T.Store.memory c.take_buffer-page.new.store); takes = c.take_buffer-page.ensures.taken; writes = c.write_page-in-None.ensures.written })

pub returns-in-Some-clause-rows : goal.returns-in-Some-clause-rows
returns-in-Some-clause-rows g c = subst RowsGood (sym (ap domain_rows c.write_page.ensures.written)) c.requires.rows

pub returns-in-None-clause-rows : goal.returns-in-None-clause-rows
returns-in-None-clause-rows g c = subst RowsGood (sym (ap domain_rows c.write_page-in-None.ensures.written)) c.take_buffer-page.ensures.rows

pub returns-then-from-eq0-clause-blocks : goal.returns-then-from-eq0-clause-blocks
returns-then-from-eq0-clause-blocks g c =
    let old = kernel_of (g.T.Store.memory c.args.store.now) in
    no_buffer_blocks old c.args.root.0 (at (domains old) c.args.root.0).buffer (g.T.Store.blocks c.args.store.now)

pub returns-in-Some-clause-blocks : goal.returns-in-Some-clause-blocks
returns-in-Some-clause-blocks g c =
    let old = kernel_of (g.T.Store.memory c.args.store.now) in
    subst (λ o. BufferBlocks old c.args.root.0 o (g.T.Store.blocks c.args.store.now) (g.T.Store.blocks c.write_page.new.store))
    (sym (buffer_read (domain_rows old) c.args.root.0 c.root_key.result (Some c.in-Some.page.0) c.requires.live c.root_key.ensures c.in-Some.ensures)) c.write_page.ensures.blocks

pub returns-in-None-clause-blocks : goal.returns-in-None-clause-blocks
returns-in-None-clause-blocks g c =
    let old = kernel_of (g.T.Store.memory c.args.store.now) in
    subst (λ o. BufferBlocks old c.args.root.0 o (g.T.Store.blocks c.args.store.now) (g.T.Store.blocks c.write_page-in-None.new.store))
    (sym (buffer_read (domain_rows old) c.args.root.0 c.root_key.result None c.requires.live c.root_key.ensures c.in-None.ensures)) (
      c.take_buffer-page.result.0,
      blocks_then (g.T.Store.blocks c.args.store.now) (g.T.Store.blocks c.take_buffer-page.new.store) (g.T.Store.blocks c.write_page-in-None.new.store)
          (page_entry_block (c.take_buffer-page.result.0 - first_page old.size) ∷ machine_block ∷ key_block old.pages c.args.root.0 ∷ []) (c.take_buffer-page.result.0 ∷ [])
          c.take_buffer-page.ensures.blocks c.write_page-in-None.ensures.blocks,
    )
