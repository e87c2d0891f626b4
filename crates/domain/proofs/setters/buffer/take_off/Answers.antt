use Rattle.std.proofs.Common.{◌-◌, [], ◌∷◌}
use Rattle.kernel_tables.specs.Kernel.{kernel_of, first_page}
use Rattle.kernel_tables.specs.Rows.{domain_rows}
use Rattle.kernel_tables.specs.Blocks.{key_block, page_entry_block, machine_block}
use Rattle.kernel_forest.proofs.Rest.{put-size}
use Rattle.domain.proofs.BlockSets.{blocks_then, page_changed}
use Rattle.domain.proofs.DomainLaws.{live_meter}
use Rattle.domain.proofs.Writing.{root_mine}
use Rattle.domain.proofs.Pages.{still_buffer, taken_once, no_place, dropped_rows, drops_buffer}
use Rattle.domain.proofs.setters.buffer.take_off.Goals as goal

pub put_row-requires-clause-mine : goal.put_row-requires-clause-mine
put_row-requires-clause-mine g c =
    let old = kernel_of (g.T.Store.memory c.args.store.now) in
    root_mine old c.args.root.0 (live_meter (domain_rows old) c.args.root.0 c.requires.live)

pub give_page-requires-clause-low : goal.give_page-requires-clause-low
give_page-requires-clause-low g c =
    (still_buffer (kernel_of (g.T.Store.memory c.args.store.now)) (kernel_of (g.T.Store.memory c.put_row.new.store)) c.args.root.0 c.args.page.0 c.requires.rows c.requires.live c.requires.held c.requires.buffer c.put_row.ensures.put).inside.low

pub give_page-requires-clause-high : goal.give_page-requires-clause-high
give_page-requires-clause-high g c =
    (still_buffer (kernel_of (g.T.Store.memory c.args.store.now)) (kernel_of (g.T.Store.memory c.put_row.new.store)) c.args.root.0 c.args.page.0 c.requires.rows c.requires.live c.requires.held c.requires.buffer c.put_row.ensures.put).inside.high

pub give_page-requires-clause-taken : goal.give_page-requires-clause-taken
give_page-requires-clause-taken g c =
    taken_once (kernel_of (g.T.Store.memory c.args.store.now)) (kernel_of (g.T.Store.memory c.put_row.new.store)) c.args.root.0 c.args.page.0 c.requires.rows c.requires.live c.requires.held c.requires.buffer c.put_row.ensures.put

pub give_page-requires-clause-unnamed : goal.give_page-requires-clause-unnamed
give_page-requires-clause-unnamed g c =
    no_place (kernel_of (g.T.Store.memory c.args.store.now)) (kernel_of (g.T.Store.memory c.put_row.new.store)) c.args.root.0 c.args.page.0 c.requires.rows c.requires.live c.requires.held c.requires.buffer c.put_row.ensures.put
    c.requires.shares.0 c.requires.shares.1 c.requires.shares.2

pub returns-clause-dropped : goal.returns-clause-dropped
returns-clause-dropped g c =
    drops_buffer (kernel_of (g.T.Store.memory c.args.store.now)) (kernel_of (g.T.Store.memory c.put_row.new.store)) c.args.root.0 c.args.page.0 c.requires.rows c.requires.live c.requires.held c.requires.buffer c.put_row.ensures.put
    (kernel_of (g.T.Store.memory c.give_page.new.store)) c.give_page.ensures.given c.give_page.ensures.shares

pub returns-clause-rows : goal.returns-clause-rows
returns-clause-rows g c =
    dropped_rows (kernel_of (g.T.Store.memory c.args.store.now)) (kernel_of (g.T.Store.memory c.put_row.new.store)) c.args.root.0 c.args.page.0 c.requires.rows c.requires.live c.requires.held c.requires.buffer c.put_row.ensures.put
    (kernel_of (g.T.Store.memory c.give_page.new.store)) c.give_page.ensures.given c.give_page.ensures.shares

pub returns-clause-blocks : goal.returns-clause-blocks
returns-clause-blocks g c =
    let old = kernel_of (g.T.Store.memory c.args.store.now) in
    let mid = kernel_of (g.T.Store.memory c.put_row.new.store) in
    blocks_then (g.T.Store.blocks c.args.store.now) (g.T.Store.blocks c.put_row.new.store) (g.T.Store.blocks c.give_page.new.store)
    (key_block old.pages c.args.root.0 ∷ []) (c.args.page.0 ∷ page_entry_block (c.args.page.0 - first_page old.size) ∷ machine_block ∷ []) c.put_row.ensures.blocks
    (page_changed (g.T.Store.blocks c.put_row.new.store) (g.T.Store.blocks c.give_page.new.store) old.size mid.size c.args.page.0 (put-size old mid c.put_row.ensures.put) c.give_page.ensures.blocks)
